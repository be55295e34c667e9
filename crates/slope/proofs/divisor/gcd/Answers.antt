use Rattle.std.proofs.Common.{ℕ, sym, ap, ◌∙◌}
use Rattle.slope.specs.Divisor.{gcd_of}
use Rattle.slope.proofs.Greatest.{gcd_step, gcd_end}
use Rattle.slope.proofs.divisor.gcd.Goals as goal

pub loop-pair-preserved : goal.loop-pair-preserved
loop-pair-preserved c = ap (λ (p : ℕ × ℕ). gcd_of p.0 p.1) c.step-pair.ensures ∙ gcd_step _ _ c.loop-pair-test.true ∙ c.loop-pair.invariant

pub returns : goal.returns
returns c = sym (gcd_end _ _ c.loop-pair-test.false) ∙ c.loop-pair.invariant
