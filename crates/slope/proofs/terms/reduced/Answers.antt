use Rattle.std.proofs.Common.{arith}
use Rattle.std.proofs.lemmas.Int.{ints}
use Rattle.slope.proofs.Divided.{divisor_within}
use Rattle.slope.proofs.terms.reduced.Goals as goal

pub divided-requires : goal.divided-requires
divided-requires c = let w = divisor_within _ _ _ c.gcd.ensures (omega (arith, ints)) (omega (arith, ints)) in record { some = w.0; few = w.1 }
