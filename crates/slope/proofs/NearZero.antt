-- The slopes between two bounds: there is one where the bounds meet, and which is nearest 0.
use Rattle.std.proofs.Common.{◌≡◌, ℕ, ◌*◌, Bool, true, false, cond, ℤ, pos, ◌+ℤ◌, ◌*ℤ◌, neg_ℤ, nat_abs, ◌≤ℤ◌, ◌<ℤ◌, refl, ap, ◌∙◌, subst, inl, inr, arith}
use lib.Signed.{lt_z}
use Rattle.std.proofs.lemmas.Int.{ints, unsigned_abs-mul}
use Rattle.slope.specs.Slopes.{Slope, AtMost, Bound, Nearest, nearest_of, Reduced}
use Rattle.slope.proofs.Ring.{ring, lins, mul_le, le_of_mul, pos_of_mul}
use Rattle.slope.proofs.Absolute.{abs_over, abs_pos, abs_neg}
use Rattle.slope.proofs.Fractions.{bound_over}

-- the two bounds leave a slope between them: least ≤ - fall
abbrev pub Open : Slope → Slope → Type 0
Open p q = (p.0 *ℤ q.1 +ℤ q.0 *ℤ p.1) ≤ℤ pos 0

-- two bounds that meet have a fraction between them
pub open_pick : (p q : Slope) → Bound p → Bound q → Open p q → (r : ℤ) × (u : ℤ) × (pos 0 <ℤ u) × AtMost p r u × AtMost q (neg_ℤ r) u
unfolding Bound
open_pick p q (inl h) hq o = (p.0, p.1, h, omega (arith, lins), simp ring (omega (arith, lins)))
open_pick p q (inr h) (inl g) o = (neg_ℤ q.0, q.1, g, simp ring (omega (arith, lins)), simp ring (omega (arith, lins)))
open_pick p q (inr h) (inr g) o = (pos 0, pos 1, omega (arith, ints), omega (arith, ints), omega (arith, ints))

-- and only they
pub open_needed : (p q : Slope) (r u : ℤ) → Bound p → Bound q → pos 0 <ℤ u → AtMost p r u → AtMost q (neg_ℤ r) u → Open p q
open_needed p q r u bp bq hu h g =
    let m1 = simp ring at (mul_le q.1 (p.0 *ℤ u) (r *ℤ p.1) (bound_over q bq) h) in
    let m2 = simp ring at (mul_le p.1 (q.0 *ℤ u) (neg_ℤ r *ℤ q.1) (bound_over p bp) g) in
    le_of_mul u (p.0 *ℤ q.1 +ℤ q.0 *ℤ p.1) (pos 0) hu (simp ring (omega (arith, lins, m1, m2)))

-- a bound that rises is a fraction
bound_rises : (s : Slope) → Bound s → pos 0 <ℤ s.0 → pos 0 <ℤ s.1
unfolding Bound
bound_rises s (inl h) g = h
bound_rises s (inr h) g = absurd (omega (arith, lins))

-- a/b at most r/u, b not negative: |a|/b is at most |r|/u
abs_least : (a b r u : ℤ) → pos 0 <ℤ a → pos 0 ≤ℤ b → (a *ℤ u) ≤ℤ (r *ℤ b) → (pos (nat_abs a) *ℤ u) ≤ℤ (pos (nat_abs r) *ℤ b)
abs_least a b r u ha hb h =
    let e = ap (λ (n : ℤ). n *ℤ u) (abs_pos a ha) in
    let m = mul_le b r (pos (nat_abs r)) hb (abs_over r).0 in
    let g = simp ring at h in
    let f = simp ring at e in
    simp ring (omega (arith, lins, m, g, f))

-- what `nearest_of` names is it
pub nearest_is : (p q : Slope) → Bound p → Bound q → Open p q → Nearest p q (nearest_of p q)
nearest_is p q bp bq o =
    let two : (t : Bool) → lt_z (pos 0) q.0 ≡ t → lt_z (pos 0) p.0 ≡ false → Nearest p q (cond t (neg_ℤ q.0, q.1) (pos 0, pos 1))
    = λ t. elim t as (λ t. lt_z (pos 0) q.0 ≡ t → lt_z (pos 0) p.0 ≡ false → Nearest p q (cond t (neg_ℤ q.0, q.1) (pos 0, pos 1))) [
      | true ↦ λ e f. let hq : pos 0 <ℤ q.0 = omega (arith, lins) in record {
        over = bound_rises q bq hq;
        low = simp ring (omega (arith, lins));
        high = simp ring (omega (arith, lins));
        least = λ r u g h. let m = abs_least q.0 q.1 (neg_ℤ r) u hq (bound_over q bq) h in
            let e1 = ap (λ (n : ℕ). pos n *ℤ u) (abs_neg q.0) in let e2 = ap (λ (n : ℕ). pos n *ℤ q.1) (abs_neg r) in omega (arith, lins, m, e1, e2);
      }
      | false ↦ λ e f. record {
        over = omega (arith, ints);
        low = simp ring (omega (arith, lins));
        high = simp ring (omega (arith, lins));
        least = λ r u g h. simp ring (omega (arith, ints));
      }
    ] in
    let go : (t : Bool) → lt_z (pos 0) p.0 ≡ t → Nearest p q (cond t p (cond (lt_z (pos 0) q.0) (neg_ℤ q.0, q.1) (pos 0, pos 1)))
    = λ t. elim t as (λ t. lt_z (pos 0) p.0 ≡ t → Nearest p q (cond t p (cond (lt_z (pos 0) q.0) (neg_ℤ q.0, q.1) (pos 0, pos 1)))) [
      | true ↦ λ e. let hp : pos 0 <ℤ p.0 = omega (arith, lins) in let hi : AtMost q (neg_ℤ p.0) p.1 = simp ring (omega (arith, lins)) in record {
        over = bound_rises p bp hp;
        low = omega (arith, lins);
        high = hi;
        least = λ r u g h. abs_least p.0 p.1 r u hp (bound_over p bp) g;
      }
      | false ↦ λ e. two (lt_z (pos 0) q.0) refl e
    ] in
    go (lt_z (pos 0) p.0) refl

-- and so is the same slope in least terms
pub reduced_nearest : (p q n m : Slope) (g : ℕ) → Nearest p q n → Reduced n m g → Nearest p q m
reduced_nearest p q n m g k d =
    let hg : pos 0 <ℤ pos g = (let z = d.some in omega (arith, ints)) in
    let go : (s : Slope) (x : ℤ) → (s.0 *ℤ n.1) ≤ℤ (x *ℤ s.1) → (y : ℤ) → x ≡ pos g *ℤ y → (s.0 *ℤ m.1) ≤ℤ (y *ℤ s.1)
    = λ s x h y e.
    let a = simp ring at (ap (λ (z : ℤ). s.0 *ℤ z) d.over) in
    let b = simp ring at (ap (λ (z : ℤ). z *ℤ s.1) e) in
    le_of_mul (pos g) (s.0 *ℤ m.1) (y *ℤ s.1) hg (simp ring (omega (arith, lins, a, b, h))) in
    record {
      over = pos_of_mul (pos g) m.1 hg (subst (λ (z : ℤ). pos 0 <ℤ z) d.over k.over);
      low = go p n.0 k.low m.0 d.rise;
      high = go q (neg_ℤ n.0) k.high (neg_ℤ m.0) (let e = d.rise in simp ring (omega (arith, lins, e)));
      least = λ r u x y.
          let h = simp ring at (k.least r u x y) in
          let a : nat_abs n.0 ≡ g * nat_abs m.0 = ap nat_abs d.rise ∙ unsigned_abs-mul (pos g) m.0 in
          let b : pos (nat_abs n.0) *ℤ u ≡ (pos g *ℤ pos (nat_abs m.0)) *ℤ u = ap (λ (z : ℕ). pos z *ℤ u) a in
          let c = simp ring at (ap (λ (z : ℤ). pos (nat_abs r) *ℤ z) d.over) in
          let b2 = simp ring at b in
          le_of_mul (pos g) _ _ hg (simp ring (omega (arith, lins, h, b2, c)));
    }
