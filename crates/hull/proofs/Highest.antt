-- The fold over the points keeps the first of the highest.
use Rattle.std.proofs.Common.{◌≡◌, ℕ, zero, suc, ◌<◌, Bool, true, false, cond, List, [], ◌∷◌, length, get_or, ◌≤ℤ◌, ◌<ℤ◌, fold, sym, refl, subst, arith}
use lib.Signed.{lt_z}
use Rattle.std.specs.List.{AllByRecursion}
use Rattle.slope.specs.Slopes.{Slope}
use Rattle.slope.proofs.Ring.{lins}
use Rattle.hull.specs.declared.point.Point.{Point}
use Rattle.hull.specs.Points.{lift, higher}
use Rattle.hull.specs.Hulls.{origin, topmost}
use Rattle.hull.specs.Laws.{FirstAmong}

-- the fold from b: b itself, where no point is higher, else the first of the highest points
data Kept (s : Slope) (b : Point) (ps : List Point) (q : Point) : Type 0 where
  stays : q ≡ b → AllByRecursion (λ p. lift s p ≤ℤ lift s b) ps → Kept s b ps q
  moves : lift s b <ℤ lift s q → FirstAmong s ps q → Kept s b ps q

-- what holds of each place before n of a list, and of p, holds of each before n + 1 of the list with p in front
before_on : (s : Slope) (p : Point) (ps : List Point) (q : Point) (n : ℕ) → lift s p <ℤ lift s q → ((j : ℕ) → j < n → lift s (get_or ps j origin) <ℤ lift s q)
    → (j : ℕ) → j < suc n → lift s (get_or (p ∷ ps) j origin) <ℤ lift s q
before_on s p ps q n h f zero l = h
before_on s p ps q n h f (suc j) l = f j (omega arith)

-- b goes where p is higher
goes : (s : Slope) (b p : Point) (ps : List Point) (q : Point) → lift s b <ℤ lift s p → Kept s p ps q → Kept s b (p ∷ ps) q
goes s b p ps q h (stays e a) =
    let l : lift s b <ℤ lift s q = subst (λ (x : Point). lift s b <ℤ lift s x) (sym e) h in
    let n : AllByRecursion (λ x. lift s x ≤ℤ lift s q) (p ∷ ps) = subst (λ (y : Point). AllByRecursion (λ x. lift s x ≤ℤ lift s y) (p ∷ ps)) (sym e) ((omega (arith, lins)), a) in
    moves l (record { place = 0; inside = omega arith; there = e; none = n; before = λ j g. absurd (omega arith) })
goes s b p ps q h (moves g f) = moves (omega (arith, lins)) (record {
  place = suc f.place;
  inside = (let i = f.inside in omega arith);
  there = f.there;
  none = (omega (arith, lins), f.none);
  before = before_on s p ps q f.place g f.before;
})

-- and holds where it is not
holds : (s : Slope) (b p : Point) (ps : List Point) (q : Point) → lift s p ≤ℤ lift s b → Kept s b ps q → Kept s b (p ∷ ps) q
holds s b p ps q h (stays e a) = stays e (h, a)
holds s b p ps q h (moves g f) =
    let l : lift s p <ℤ lift s q = omega (arith, lins) in
    moves g (record {
      place = suc f.place;
      inside = (let i = f.inside in omega arith);
      there = f.there;
      none = (omega (arith, lins), f.none);
      before = before_on s p ps q f.place l f.before;
    })

fold_kept : (s : Slope) (b : Point) (ps : List Point) → Kept s b ps (fold (higher s) b ps)
fold_kept s b [] = stays refl tt
fold_kept s b (p ∷ ps) =
    let go : (t : Bool) → lt_z (lift s b) (lift s p) ≡ t → Kept s b (p ∷ ps) (fold (higher s) (cond t p b) ps)
    = λ t. elim t as (λ t. lt_z (lift s b) (lift s p) ≡ t → Kept s b (p ∷ ps) (fold (higher s) (cond t p b) ps)) [
      | true ↦ λ e. goes s b p ps _ (omega (arith, lins)) (fold_kept s p ps)
      | false ↦ λ e. holds s b p ps _ (omega (arith, lins)) (fold_kept s b ps)
    ] in
    go (lt_z (lift s b) (lift s p)) refl

first_kept : (s : Slope) (p : Point) (ps : List Point) (q : Point) → Kept s p (p ∷ ps) q → FirstAmong s (p ∷ ps) q
first_kept s p ps q (stays e a) = record {
  place = 0;
  inside = omega arith;
  there = e;
  none = subst (λ (y : Point). AllByRecursion (λ x. lift s x ≤ℤ lift s y) (p ∷ ps)) (sym e) a;
  before = λ j g. absurd (omega arith);
}
first_kept s p ps q (moves h f) = f

pub topmost_first : (s : Slope) (ps : List Point) → 0 < length ps → FirstAmong s ps (topmost s ps)
topmost_first s [] h = absurd (omega arith)
topmost_first s (p ∷ ps) h = first_kept s p ps _ (fold_kept s p (p ∷ ps))
