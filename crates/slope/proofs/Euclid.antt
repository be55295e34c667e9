-- What divides a product and has no divisor in common with one factor divides the other.
use Rattle.std.proofs.Common.{◌≡◌, ℕ, zero, suc, ◌+◌, ◌*◌, ◌/◌, ◌%◌, ◌≤◌, sym, ap, ◌∙◌, subst, mod-lt, mul_assoc, add-mul, one-mul, div-add-mod', arith}
use Prim.Native.Nat.{◌∣◌}
use native.Mathlib.Nat.{dvd-mod_iff, dvd-zero, dvd_refl, dvd-mul_left_of_dvd, dvd-mul_right, dvd-add_iff_right}

-- by Euclid's rule a and b have a common divisor g such that m divides g x if it divides a x and b x
common : (n a b x m : ℕ) → b ≤ n → m ∣ a * x → m ∣ b * x → (g : ℕ) × (g ∣ a) × (g ∣ b) × (m ∣ g * x)
common n a zero x m h p q = (a, dvd_refl a, dvd-zero a, p)
common zero a (suc b) x m h p q = absurd (omega arith)
common (suc n) a (suc b) x m h p q =
    let l = mod-lt a {m = suc b} (omega arith) in
    let e : a * x ≡ a / suc b * (suc b * x) + a % suc b * x = ap (λ (z : ℕ). z * x) (sym (div-add-mod' a (suc b))) ∙ add-mul (a / suc b * suc b) (a % suc b) x ∙ ap (λ (z : ℕ). z + a % suc b * x) (mul_assoc (a / suc b) (suc b) x) in
    let r : m ∣ a % suc b * x = (dvd-add_iff_right m (dvd-mul_left_of_dvd m q (a / suc b))).1 (subst (λ (z : ℕ). m ∣ z) e p) in
    let i = common n (suc b) (a % suc b) x m (omega arith) q r in
    (i.0, (dvd-mod_iff i.0 i.1).0 i.2, i.1, i.3)

pub divides : (a m x : ℕ) → ((d : ℕ) → d ∣ a → d ∣ m → d ≡ 1) → m ∣ a * x → m ∣ x
divides a m x c p =
    let i = common m a m x m (omega arith) p (dvd-mul_right m x) in
    subst (λ (z : ℕ). m ∣ z) (ap (λ (g : ℕ). g * x) (c i.0 i.1 i.2) ∙ one-mul x) i.3
