-- There is one greatest common divisor, and Euclid's rule finds it.
use Rattle.std.proofs.Common.{◌≡◌, ℕ, zero, suc, ◌%◌, ◌<◌, ◌≤◌, refl, mod-lt, arith}
use native.Mathlib.Nat.{dvd-mod_iff, dvd-zero, dvd_refl, dvd_antisymm}
use Rattle.slope.specs.Divisor.{Greatest, euclid, gcd_of}

euclid_greatest : (n a b : ℕ) → b ≤ n → Greatest a b (euclid n a b)
euclid_greatest n a zero h = record { left = dvd_refl a; right = dvd-zero a; most = λ d p q. p }
euclid_greatest zero a (suc b) h = absurd (omega arith)
euclid_greatest (suc n) a (suc b) h =
    let l = mod-lt a {m = suc b} (omega arith) in
    let i = euclid_greatest n (suc b) (a % suc b) (omega arith) in
    record { left = (dvd-mod_iff _ i.left).0 i.right; right = i.left; most = λ d p q. i.most d q ((dvd-mod_iff d q).1 p) }

pub gcd_greatest : (a b : ℕ) → Greatest a b (gcd_of a b)
unfolding gcd_of
gcd_greatest a b = euclid_greatest b a b (omega arith)

pub greatest_once : (a b g h : ℕ) → Greatest a b g → Greatest a b h → g ≡ h
greatest_once a b g h x y = dvd_antisymm (y.most g x.left x.right) (x.most h y.left y.right)

-- a step of Euclid's rule keeps it
pub gcd_step : (a b : ℕ) → 0 < b → gcd_of b (a % b) ≡ gcd_of a b
gcd_step a b h =
    let i = gcd_greatest b (a % b) in
    greatest_once a b _ _ (record { left = (dvd-mod_iff _ i.left).0 i.right; right = i.left; most = λ d p q. i.most d q ((dvd-mod_iff d q).1 p) }) (gcd_greatest a b)

-- and where nothing is left it is found
pub gcd_end : (a b : ℕ) → b ≤ 0 → gcd_of a b ≡ a
unfolding gcd_of
gcd_end a zero h = refl
gcd_end a (suc b) h = absurd (omega arith)
