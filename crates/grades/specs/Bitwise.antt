-- The lowest set bit, the bits that two masks share, and the full mask.
use Rattle.std.specs.Prelude.{◌≡◌, ℕ, zero, suc, ◌-◌, ◌/◌, ◌%◌, ◌^◌, ◌<◌, ◌≤◌, min, refl}
use Rattle.std.proofs.Common.{sym, ap, ◌∙◌, pow-suc, arith}
use Rattle.std.proofs.Math.Nat.{zero-div}
use Rattle.std.specs.Int.Bits.{bit_and, and_step}
use Rattle.std.specs.Int.Count.{count_trailing_zeros, under}
use Rattle.std.proofs.lemmas.Nat.{and_shr, and_le_l, pow_pos}
use Rattle.grades.specs.Bit.{bit, bit_next}

-- under the bit d, the lowest set place of n, where `next` speaks of n / 2
module _ (k n : ℕ) (pos : 0 < n) (below : n < 2 ^ suc k) (next : 0 < n / 2 → n / 2 < 2 ^ k → bit (count_trailing_zeros k (n / 2)) (n / 2) ≡ 1) where
  under_set : (d : ℕ) → n % 2 ≡ d → bit (under d (count_trailing_zeros k (n / 2))) n ≡ 1
  under_set zero e = let p = pow-suc 2 k in bit_next (count_trailing_zeros k (n / 2)) n ∙ next (omega arith) (omega arith)
  under_set (suc d) e = omega arith

-- the lowest set bit is set
pub lowest_set : (k n : ℕ) → 0 < n → n < 2 ^ k → bit (count_trailing_zeros k n) n ≡ 1
unfolding count_trailing_zeros
lowest_set zero n p b = omega arith
lowest_set (suc k) n p b = under_set k n p b (lowest_set k (n / 2)) (n % 2) refl

module _ (k n : ℕ) (next : (h : ℕ) → bit h (n / 2) ≡ 1 → count_trailing_zeros k (n / 2) ≤ h) where
  under_least : (d g : ℕ) → n % 2 ≡ d → bit g n ≡ 1 → under d (count_trailing_zeros k (n / 2)) ≤ g
  under_least zero zero e s = omega arith
  under_least zero (suc g) e s = let h = next g (sym (bit_next g n) ∙ s) in omega arith
  under_least (suc d) g e s = omega arith

-- and no lower bit is set
pub lowest_least : (k n g : ℕ) → bit g n ≡ 1 → count_trailing_zeros k n ≤ g
unfolding count_trailing_zeros
lowest_least zero n g s = omega arith
lowest_least (suc k) n g s = under_least k n (lowest_least k (n / 2)) (n % 2) g refl s

-- a bit of two masks' common bits is the lesser of the two
pub bit_of_and : (g a b : ℕ) → bit g (bit_and a b) ≡ min (bit g a) (bit g b)
bit_of_and g a b =
    let e = and_shr a b g in
    let s = and_step (a / 2 ^ g) (b / 2 ^ g) in
    ap (λ x. x % 2) (e ∙ s) ∙ omega arith

pub bit_full : (k g : ℕ) → g < k → bit g (2 ^ k - 1) ≡ 1
bit_full zero g h = omega arith
bit_full (suc k) zero h = let p = pow-suc 2 k in let q = pow_pos k in omega arith
bit_full (suc k) (suc g) h =
    let p = pow-suc 2 k in
    let q = pow_pos k in
    let e : (2 ^ suc k - 1) / 2 ≡ 2 ^ k - 1 = omega arith in
    bit_next g (2 ^ suc k - 1) ∙ ap (bit g) e ∙ bit_full k g (omega arith)

-- a mask with a set bit is not 0
pub bit_some : (g n : ℕ) → bit g n ≡ 1 → 0 < n
bit_some g zero h = let z : zero / 2 ^ g ≡ 0 = zero-div (2 ^ g) in omega (arith, ap (λ x. x % 2) z)
bit_some g (suc n) h = omega arith

pub and_below : (a b : ℕ) → a < 268435456 → bit_and a b < 268435456
and_below a b h = let l = and_le_l a b in omega arith
