-- Slopes as fractions: transitivity, and what bounds the steeper of two.
use Rattle.std.proofs.Common.{◌≡◌, Bool, true, false, cond, ℤ, pos, ◌*ℤ◌, neg_ℤ, ◌≤ℤ◌, ◌<ℤ◌, refl, ap, ◌∙◌, inl, inr, arith}
use lib.IntN.{*ℤ-zero}
use Rattle.slope.specs.Slopes.{Slope, steeper, less_steep, AtMost, Bound}
use Rattle.slope.proofs.Ring.{ring, lins, mul_le, le_of_mul, mul_pos}

-- slopes with the same rise and the same over are the same
pub pair_same : {a a' b b' : ℤ} → a ≡ a' → b ≡ b' → ◌≡◌ {A = ℤ × ℤ} (a, b) (a', b')
pair_same p q = cc

-- a/b ≤ c/d and c/d ≤ e/f give a/b ≤ e/f
pub frac_trans : (a b c d e f : ℤ) → pos 0 ≤ℤ b → pos 0 <ℤ d → pos 0 ≤ℤ f → (a *ℤ d) ≤ℤ (c *ℤ b) → (c *ℤ f) ≤ℤ (e *ℤ d) → (a *ℤ f) ≤ℤ (e *ℤ b)
frac_trans a b c d e f hb hd hf h g =
    let m = simp ring at (mul_le f (a *ℤ d) (c *ℤ b) hf h) in
    let n = simp ring at (mul_le b (c *ℤ f) (e *ℤ d) hb g) in
    le_of_mul d (a *ℤ f) (e *ℤ b) hd (simp ring (omega (arith, lins, m, n)))

pub bound_over : (s : Slope) → Bound s → pos 0 ≤ℤ s.1
unfolding Bound
bound_over s (inl h) = omega (arith, lins)
bound_over s (inr h) = omega (arith, lins)

-- what is below all fractions is less than each
no_less : (s x : Slope) → pos 0 <ℤ x.1 → less_steep s x ≡ false → (s.1 ≡ pos 0) × (s.0 <ℤ pos 0) → ⊥
no_less s x hx e d =
    let z : x.0 *ℤ s.1 ≡ pos 0 = ap (λ (n : ℤ). x.0 *ℤ n) d.0 ∙ *ℤ-zero x.0 in
    let p : pos 0 <ℤ neg_ℤ s.0 = omega (arith, lins) in
    let m = simp ring at (mul_pos x.1 (neg_ℤ s.0) hx p) in
    omega (arith, lins, z, m)

-- the steeper of two is at most r/u exactly where both are
pub steeper_out : (s x : Slope) (r u : ℤ) → Bound s → pos 0 <ℤ x.1 → pos 0 <ℤ u → AtMost (steeper s x) r u → AtMost s r u × AtMost x r u
unfolding Bound
steeper_out s x r u hs hx hu h =
    let go : (t : Bool) → less_steep s x ≡ t → AtMost (cond t x s) r u → AtMost s r u × AtMost x r u
    = λ t. elim t as (λ t. less_steep s x ≡ t → AtMost (cond t x s) r u → AtMost s r u × AtMost x r u) [
      | true ↦ λ e g. (frac_trans s.0 s.1 x.0 x.1 r u (bound_over s hs) hx (omega (arith, lins)) (omega (arith, lins)) g, g)
      | false ↦ λ e g. (
        g,
        elim hs [
          | inl d ↦ frac_trans x.0 x.1 s.0 s.1 r u (omega (arith, lins)) d (omega (arith, lins)) (omega (arith, lins)) g
          | inr d ↦ absurd (no_less s x hx e d)
        ],
      )
    ] in
    go (less_steep s x) refl h

pub steeper_in : (s x : Slope) (r u : ℤ) → AtMost s r u → AtMost x r u → AtMost (steeper s x) r u
steeper_in s x r u h g = elim (less_steep s x) as (λ t. AtMost (cond t x s) r u) [ true ↦ g | false ↦ h ]

pub steeper_bound : (s x : Slope) → Bound s → pos 0 <ℤ x.1 → Bound (steeper s x)
unfolding Bound
steeper_bound s x h g = elim (less_steep s x) as (λ t. Bound (cond t x s)) [ true ↦ inl g | false ↦ h ]
