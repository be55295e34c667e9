-- Slopes stay small: the one nearest 0 between small bounds, and a small one in least terms.
use Rattle.std.proofs.Common.{ℕ, ◌<◌, ◌≤◌, true, false, cond, ℤ, pos, negsuc, ◌*ℤ◌, neg_ℤ, ◌≤ℤ◌, subst, arith}
use native.Mathlib.Nat as N
use lib.Signed.{lt_z}
use Rattle.std.proofs.lemmas.Int.{ints}
use Rattle.slope.specs.Slopes.{Slope, nearest_of, Reduced, Small}
use Rattle.slope.proofs.Ring.{ring, lins}

-- a factor of 1 or more goes out of a bound
shrink_high : (g : ℕ) (z : ℤ) (b : ℕ) → 0 < g → (pos g *ℤ z) ≤ℤ pos b → z ≤ℤ pos b
shrink_high g (pos n) b h l = let p : 1 ≤ g = omega arith in let q : n ≤ n = omega arith in let m = N.mul-le-mul p q in omega (arith, ints, m)
shrink_high g (negsuc n) b h l = omega (arith, ints)

shrink_low : (g : ℕ) (z : ℤ) (b : ℕ) → 0 < g → neg_ℤ (pos b) ≤ℤ (pos g *ℤ z) → neg_ℤ (pos b) ≤ℤ z
shrink_low g z b h l = let k = simp ring at l in let m = shrink_high g (neg_ℤ z) b h (simp ring (omega (arith, lins, k))) in omega (arith, lins, m)

pub small_nearest : (p q : Slope) → Small p → Small q → Small (nearest_of p q)
small_nearest p q hp hq =
    elim (lt_z (pos 0) p.0) as (λ t. Small (cond t p (cond (lt_z (pos 0) q.0) (neg_ℤ q.0, q.1) (pos 0, pos 1)))) [
      | true ↦ hp
      | false ↦ elim (lt_z (pos 0) q.0) as (λ t. Small (cond t (neg_ℤ q.0, q.1) (pos 0, pos 1))) [
        | true ↦ (hq.0, (let x = hq.2 in omega (arith, lins, x)), (let x = hq.1 in omega (arith, lins, x)))
        | false ↦ (omega (arith, ints), omega (arith, ints), omega (arith, ints))
      ]
    ]

pub small_reduced : (n m : Slope) (g : ℕ) → Reduced n m g → Small n → Small m
small_reduced n m g d h = (
  shrink_high g m.1 255 d.some (subst (λ (z : ℤ). z ≤ℤ pos 255) d.over h.0),
  shrink_low g m.0 2000000 d.some (subst (λ (z : ℤ). neg_ℤ (pos 2000000) ≤ℤ z) d.rise h.1),
  shrink_high g m.0 2000000 d.some (subst (λ (z : ℤ). z ≤ℤ pos 2000000) d.rise h.2),
)
