use Rattle.std.proofs.Common.{◌≡◌}
use Rattle.slope.specs.Divisor.{gcd_of}
use Rattle.slope.proofs.divisor.gcd.Given as goal

abbrev pub invariant-loop-pair : goal.invariant-loop-pair
invariant-loop-pair l = gcd_of l.pair.0 l.pair.1 ≡ gcd_of l.a l.b

abbrev pub decreases-loop-pair : goal.decreases-loop-pair
decreases-loop-pair l = l.pair.1
