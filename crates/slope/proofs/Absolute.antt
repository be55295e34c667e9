-- Absolute values.
use Rattle.std.proofs.Common.{◌≡◌, ℤ, pos, negsuc, neg_ℤ, nat_abs, ◌≤ℤ◌, ◌<ℤ◌, refl, arith}
use Rattle.std.proofs.lemmas.Int.{ints}

-- it is no less than the number, and no less than the number negated
pub abs_over : (z : ℤ) → (z ≤ℤ pos (nat_abs z)) × (neg_ℤ z ≤ℤ pos (nat_abs z))
abs_over (pos n) = omega (arith, ints)
abs_over (negsuc n) = omega (arith, ints)

pub abs_pos : (z : ℤ) → pos 0 <ℤ z → pos (nat_abs z) ≡ z
abs_pos (pos n) h = refl
abs_pos (negsuc n) h = absurd (omega (arith, ints))

pub abs_neg : (z : ℤ) → nat_abs (neg_ℤ z) ≡ nat_abs z
abs_neg z = omega (arith, ints)
