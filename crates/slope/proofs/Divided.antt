-- A slope divided by the greatest common divisor of its parts.
use Rattle.std.proofs.Common.{◌≡◌, ℕ, suc, ◌*◌, ◌/◌, ◌^◌, ◌<◌, ℤ, pos, negsuc, ◌*ℤ◌, neg_ℤ, nat_abs, ◌<ℤ◌, sym, refl, ap, ◌∙◌, subst, mul-one, arith}
use Prim.Native.Nat.{◌∣◌}
use native.Mathlib.Nat.{mul-div_cancel', pos_of_dvd_of_pos, le_of_dvd, dvd_of_mul-dvd-mul_left, eq-one_of_dvd-one, mul-dvd-mul_left}
use lib.Signed.{quot_z}
use Rattle.std.proofs.lemmas.Int.{ints}
use Rattle.slope.specs.Divisor.{Greatest, gcd_of}
use Rattle.slope.specs.Slopes.{Slope, Reduced, reduced_of}
use Rattle.slope.proofs.Ring.{mul_neg}
use Rattle.slope.proofs.Greatest.{gcd_greatest}

abs_turned : (n : ℕ) → nat_abs (neg_ℤ (pos n)) ≡ n
abs_turned n = omega (arith, ints)

abs_quot : (a : ℤ) (g : ℕ) → nat_abs (quot_z a (pos g)) ≡ nat_abs a / g
abs_quot (pos n) g = refl
abs_quot (negsuc n) g = abs_turned (suc n / g)

exact : (a : ℤ) (g : ℕ) → g ∣ nat_abs a → a ≡ pos g *ℤ quot_z a (pos g)
exact (pos n) g d = ap pos (sym (mul-div_cancel' g d))
exact (negsuc n) g d = sym (mul_neg (pos g) (pos (suc n / g)) ∙ ap (λ (m : ℕ). neg_ℤ (pos m)) (mul-div_cancel' g d))

-- the parts of a slope divided by their greatest common divisor
module _ (a b : ℤ) (g : ℕ) (hb : pos 0 <ℤ b) (k : Greatest (nat_abs a) (nat_abs b) g) where
  positive : 0 < nat_abs b
  positive = omega (arith, ints)

  some_divisor : 0 < g
  some_divisor = pos_of_dvd_of_pos k.right positive

  times_divides : (d : ℕ) (z : ℤ) → g ∣ nat_abs z → d ∣ nat_abs (quot_z z (pos g)) → g * d ∣ nat_abs z
  times_divides d z p q = subst (λ (n : ℕ). g * d ∣ n) (mul-div_cancel' g p) (mul-dvd-mul_left d g (subst (λ (n : ℕ). d ∣ n) (abs_quot z g) q))

  divided : Reduced (a, b) (quot_z a (pos g), quot_z b (pos g)) g
  divided = record {
    some = some_divisor;
    rise = exact a g k.left;
    over = exact b g k.right;
    least = λ d p q. eq-one_of_dvd-one (dvd_of_mul-dvd-mul_left {k = g} d {n = 1} some_divisor (subst (λ (n : ℕ). g * d ∣ n) (sym (mul-one g)) (k.most (g * d) (times_divides d a k.left p) (times_divides d b k.right q))));
  }

pub reduced_is : (s : Slope) → pos 0 <ℤ s.1 → Reduced s (reduced_of s) (gcd_of (nat_abs s.0) (nat_abs s.1))
reduced_is s h = divided s.0 s.1 _ h (gcd_greatest _ _)

-- the divisor of numbers of which the second is some and not too large is so too
pub divisor_within : (x y g : ℕ) → g ≡ gcd_of x y → 0 < y → y < 2 ^ 63 → (0 < g) × (g < 2 ^ 63)
divisor_within x y g e h l =
    let d : g ∣ y = subst (λ (n : ℕ). n ∣ y) (sym e) (gcd_greatest x y).right in
    let m = le_of_dvd h d in
    (pos_of_dvd_of_pos d h, omega (arith, m))
