-- The lowest allowed line of a slope goes through the low end that is topmost against it.
use Rattle.std.proofs.Common.{◌≡◌, ◌<◌, Bool, true, false, cond, List, [], ◌∷◌, length, ℤ, pos, neg_ℤ, ◌≤ℤ◌, ◌<ℤ◌, fold, refl, arith}
use lib.Signed.{lt_z}
use Rattle.std.specs.List.{AllByRecursion}
use Rattle.std.proofs.ByRecursion.{All-weaker}
use Rattle.slope.specs.Slopes.{Slope}
use Rattle.slope.proofs.Ring.{ring, lins}
use Rattle.hull.specs.declared.point.Point.{Point}
use Rattle.hull.specs.Points.{NotBelow, Apart, lift, higher}
use Rattle.hull.specs.Hulls.{topmost}
use Rattle.hull.specs.Lines.{Serves, Slopes}

higher_over : (s : Slope) (b p : Point) → (lift s b ≤ℤ lift s (higher s b p)) × (lift s p ≤ℤ lift s (higher s b p))
higher_over s b p =
    let go : (t : Bool) → lt_z (lift s b) (lift s p) ≡ t → (lift s b ≤ℤ lift s (cond t p b)) × (lift s p ≤ℤ lift s (cond t p b))
    = λ t. elim t as (λ t. lt_z (lift s b) (lift s p) ≡ t → (lift s b ≤ℤ lift s (cond t p b)) × (lift s p ≤ℤ lift s (cond t p b))) [
      | true ↦ λ e. (omega (arith, lins), omega (arith, lins))
      | false ↦ λ e. (omega (arith, lins), omega (arith, lins))
    ] in
    go (lt_z (lift s b) (lift s p)) refl

fold_over : (s : Slope) (b : Point) (ps : List Point) → (lift s b ≤ℤ lift s (fold (higher s) b ps)) × AllByRecursion (λ p. lift s p ≤ℤ lift s (fold (higher s) b ps)) ps
fold_over s b [] = (omega (arith, lins), tt)
fold_over s b (p ∷ ps) =
    let h = higher_over s b p in
    let i = fold_over s (higher s b p) ps in
    let j = i.0 in
    (omega (arith, lins, h, j), (omega (arith, lins, h, j), i.1))

fold_keeps : (P : Point → Type 0) (s : Slope) (b : Point) (ps : List Point) → P b → AllByRecursion P ps → P (fold (higher s) b ps)
fold_keeps P s b [] h g = h
fold_keeps P s b (p ∷ ps) h g = fold_keeps P s (higher s b p) ps (elim (lt_z (lift s b) (lift s p)) as (λ t. P (cond t p b)) [ true ↦ g.0 | false ↦ h ]) g.1

-- it is one of the points
pub topmost_keeps : (P : Point → Type 0) (s : Slope) (ps : List Point) → 0 < length ps → AllByRecursion P ps → P (topmost s ps)
topmost_keeps P s [] h g = absurd (omega arith)
topmost_keeps P s (p ∷ ps) h g = fold_keeps P s p (p ∷ ps) g.0 g

pub anchor_serves : (ls ms : List Point) (r u : ℤ) → pos 0 <ℤ u → 0 < length ls → Slopes ls ms r u → Serves ls ms r u (lift (r, u) (topmost (r, u) ls))
anchor_serves ls ms r u hu h s = record {
  over = hu;
  lows = All-weaker (λ p. lift (r, u) p ≤ℤ lift (r, u) (topmost (r, u) ls)) (NotBelow r u (lift (r, u) (topmost (r, u) ls))) (λ p l. omega (arith, lins, l)) ls (fold_over (r, u) _ ls).1;
  highs = All-weaker (λ m. Apart r u (topmost (r, u) ls) m) (NotBelow (neg_ℤ r) u (neg_ℤ (lift (r, u) (topmost (r, u) ls)))) (λ m a. let g = simp ring at a in simp ring (omega (arith, lins, g))) ms (topmost_keeps (λ a. AllByRecursion (λ m. Apart r u a m) ms) (r, u) ls h s);
}

pub anchor_lowest : (ls ms : List Point) (r u k : ℤ) → 0 < length ls → Serves ls ms r u k → lift (r, u) (topmost (r, u) ls) ≤ℤ k
anchor_lowest ls ms r u k h s = let g = topmost_keeps (NotBelow r u k) (r, u) ls h s.lows in omega (arith, lins, g)
