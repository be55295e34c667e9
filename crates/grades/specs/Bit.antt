-- The bits of a mask, and the place of its lowest set bit.
use Rattle.std.specs.Prelude.{◌≡◌, ℕ, zero, suc, ◌/◌, ◌%◌, ◌^◌, ◌<◌, ◌≤◌, refl}
use Rattle.std.proofs.Common.{sym, ap, ◌∙◌, one-add, pow-suc, arith}
use Rattle.std.specs.Int.Count.{count_trailing_zeros, under}
use Rattle.std.proofs.lemmas.Nat.{shr-shr}

-- bit g of a mask, worth 2^g: 1 where it is set, else 0
abbrev pub bit : ℕ → ℕ → ℕ
bit g mask = mask / 2 ^ g % 2

pub bit_next : (g n : ℕ) → bit (suc g) n ≡ bit g (n / 2)
bit_next g n = ap (λ x. x % 2) (ap (λ k. n / 2 ^ k) (sym (one-add g)) ∙ sym (shr-shr n 1 g))

under_below : (d t j : ℕ) → t < j → under d t < suc j
under_below zero t j h = omega arith
under_below (suc d) t j h = omega arith

module _ (j k n : ℕ) (pos : 0 < n) (below : n < 2 ^ suc j) (next : 0 < n / 2 → n / 2 < 2 ^ j → count_trailing_zeros k (n / 2) < j) where
  under_low : (d : ℕ) → n % 2 ≡ d → under d (count_trailing_zeros k (n / 2)) < suc j
  under_low zero e = let q = pow-suc 2 j in under_below zero (count_trailing_zeros k (n / 2)) j (next (omega arith) (omega arith))
  under_low (suc d) e = omega arith

-- a number below 2 ^ j has its lowest set bit below j
pub lowest_below : (j k n : ℕ) → 0 < n → n < 2 ^ j → j ≤ k → count_trailing_zeros k n < j
unfolding count_trailing_zeros
lowest_below zero k n p b h = omega arith
lowest_below (suc j) zero n p b h = omega arith
lowest_below (suc j) (suc k) n p b h = under_low j k n p b (λ x y. lowest_below j k (n / 2) x y (omega arith)) (n % 2) refl
