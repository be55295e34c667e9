use Rattle.std.proofs.Common.{pos, ◌-ℤ◌, ◌*ℤ◌, sym, arith}
use Rattle.slope.proofs.Ring.{ring, lins}
use Rattle.slope.proofs.Greatest.{gcd_greatest}
use Rattle.slope.proofs.Fractions.{steeper_out, steeper_in}
use Rattle.slope.proofs.NearZero.{open_pick, open_needed, nearest_is}
use Rattle.slope.proofs.Divided.{reduced_is}
use Rattle.slope.proofs.Floors.{meets_back}
use Rattle.slope.proofs.law.laws.Goals as goal

pub returns : goal.returns
returns c = record {
  divisors = gcd_greatest;
  steeper = λ s x hs hx r u hu. (steeper_out s x r u hs hx hu, steeper_in s x r u);
  meetings = λ p q hp hq. (λ m. let o = open_pick p q hp hq (omega (arith, lins)) in (o.0, o.1, (o.2, o.3, o.4)), λ r u i. let o = open_needed p q r u hp hq i.0 i.1 i.2 in sym (omega (arith, lins)));
  nearer = λ p q hp hq m. nearest_is p q hp hq (omega (arith, lins));
  terms = reduced_is;
  meets = λ height rise low high over pivot t hu l h. meets_back rise (pos over *ℤ height -ℤ rise *ℤ pos pivot) (pos pivot) height low high over (pos t) hu (omega (arith, lins)) (let m = simp ring at l in simp ring (omega (arith, lins, m))) (let m = simp ring at h in simp ring (omega (arith, lins, m)));
}
