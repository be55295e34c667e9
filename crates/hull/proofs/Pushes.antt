-- A push: it allows the lines that the hull and the point do, so the bounds of the slope stay what they were.
use Rattle.std.proofs.Common.{◌≡◌, ◌<◌, true, false, cond, List, [], ◌∷◌, ◌++◌, reverse, ℤ, pos, negsuc, ◌+ℤ◌, neg_ℤ, ◌≤ℤ◌, ◌<ℤ◌, sym, refl, ap, ◌∙◌, subst, inr, arith}
use Rattle.std.specs.List.{AllByRecursion}
use Rattle.std.proofs.ByRecursion.{All-weaker, All-push}
use Rattle.std.proofs.lemmas.List.{reverse-append, reverse-reverse}
use Rattle.std.proofs.lemmas.Int.{ints}
use Rattle.slope.specs.Slopes.{Slope, Bound}
use Rattle.hull.specs.declared.point.Point.{Point}
use Rattle.hull.specs.Points.{NotBelow, Apart}
use Rattle.hull.specs.Hulls.{covered, popped, pushed, Falling}
use Rattle.hull.specs.Lines.{Serves, Slopes, Bounds}
use Rattle.hull.proofs.Lines.{unpopped, all_popped}
use Rattle.hull.proofs.Fits.{own, line_slopes, slopes_line}

all_reverse : (P : Point → Type 0) (l : List Point) → AllByRecursion P l → AllByRecursion P (reverse l)
all_reverse P [] h = tt
all_reverse P (x ∷ l) h = subst (AllByRecursion P) (sym (reverse-append (x ∷ []) l)) (All-push P (reverse l) x (all_reverse P l h.1) h.0)

pub all_unreverse : (P : Point → Type 0) (l : List Point) → AllByRecursion P (reverse l) → AllByRecursion P l
all_unreverse P l h = subst (AllByRecursion P) (reverse-reverse l) (all_reverse P (reverse l) h)

all_apart : (P : Point → Type 0) (xs : List Point) (a : Point) → AllByRecursion P (xs ++ (a ∷ [])) → AllByRecursion P (a ∷ xs)
all_apart P [] a h = h
all_apart P (x ∷ xs) a h = let i = all_apart P xs a h.1 in (i.0, (h.0, i.1))

-- a pushed hull allows the lines that the hull and the point do
pub push_in : (P : Point → Type 0) (ps : List Point) (p : Point) → AllByRecursion P (p ∷ ps) → AllByRecursion P (pushed ps p)
push_in P ps p h = All-push P (reverse (popped (reverse ps) p)) p (all_reverse P (popped (reverse ps) p) (all_popped P p (reverse ps) (all_reverse P ps h.1))) h.0

pub push_out : (r u k : ℤ) (ps : List Point) (p : Point) → pos 0 <ℤ u → Falling p (reverse ps) → AllByRecursion (NotBelow r u k) (pushed ps p) → AllByRecursion (NotBelow r u k) (p ∷ ps)
push_out r u k ps p hu f h =
    let i = all_apart (NotBelow r u k) (reverse (popped (reverse ps) p)) p h in
    (i.0, all_unreverse (NotBelow r u k) ps (unpopped r u k p (reverse ps) hu f i.0 (all_unreverse (NotBelow r u k) (popped (reverse ps) p) i.1)))

pub served : (a b : Point) (ls ms : List Point) (r u k : ℤ) → Falling a (reverse ls) → Falling b (reverse ms) → Serves (pushed ls a) (pushed ms b) r u k → Serves (a ∷ ls) (b ∷ ms) r u k
served a b ls ms r u k f g s = record { over = s.over; lows = push_out r u k ls a s.over f s.lows; highs = push_out (neg_ℤ r) u (neg_ℤ k) ms b s.over g s.highs }

pub kept : (a b : Point) (ls ms : List Point) (r u k : ℤ) → Serves (a ∷ ls) (b ∷ ms) r u k → Serves (pushed ls a) (pushed ms b) r u k
kept a b ls ms r u k s = record { over = s.over; lows = push_in (NotBelow r u k) ls a s.lows; highs = push_in (NotBelow (neg_ℤ r) u (neg_ℤ k)) ms b s.highs }

pushed_line : (a : Point) (ls ms : List Point) (r u : ℤ) → pos 0 <ℤ u → Slopes (pushed ls a) ms r u → (k : ℤ) × Serves (pushed ls a) ms r u k
pushed_line a ls ms r u hu s =
    let l = slopes_line a (reverse (popped (reverse ls) a)) ms r u hu (all_apart (λ x. AllByRecursion (λ m. Apart r u x m) ms) (reverse (popped (reverse ls) a)) a s) in
    (l.0, record { over = hu; lows = All-push (NotBelow r u l.0) (reverse (popped (reverse ls) a)) a l.1.lows.1 l.1.lows.0; highs = l.1.highs })

pub bounds_pushed : (a b : Point) (ls ms : List Point) (p q : Slope) → Falling a (reverse ls) → Falling b (reverse ms) → Bounds (a ∷ ls) (b ∷ ms) p q → Bounds (pushed ls a) (pushed ms b) p q
bounds_pushed a b ls ms p q f g k = record {
  enough = λ r u hu x y. let l = slopes_line a ls (b ∷ ms) r u hu (k.enough r u hu x y) in line_slopes (pushed ls a) (pushed ms b) r u l.0 (kept a b ls ms r u l.0 l.1);
  needed = λ r u hu s. let l = pushed_line a ls (pushed ms b) r u hu s in k.needed r u hu (line_slopes (a ∷ ls) (b ∷ ms) r u l.0 (served a b ls ms r u l.0 f g l.1));
  low = k.low;
  high = k.high;
}

lower : (p b : Point) (rest : List Point) → b.tick < p.tick → Falling b rest → Falling p rest
lower p b [] h f = tt
lower p b (a ∷ rest) h f = (omega arith, f.1)

falling_popped : (p : Point) (l : List Point) (q : Point) → Falling p l → Falling p (popped l q)
falling_popped p [] q f = tt
falling_popped p (b ∷ rest) q f = elim (covered (b ∷ rest) q) as (λ t. Falling p (cond t (popped rest q) (b ∷ rest))) [ true ↦ falling_popped p rest q (lower p b rest f.0 f.1) | false ↦ f ]

pub falling_all : (p : Point) (l : List Point) → Falling p l → AllByRecursion (λ x. x.tick < p.tick) l
falling_all p [] f = tt
falling_all p (b ∷ rest) f = (f.0, All-weaker _ _ (λ x h. let g = f.0 in omega arith) rest (falling_all b rest f.1))

-- and a later point comes after all of them
pub falling_next : (ps : List Point) (p q : Point) → p.tick < q.tick → Falling p (reverse ps) → Falling q (reverse (pushed ps p))
falling_next ps p q h f =
    let e : reverse (pushed ps p) ≡ p ∷ popped (reverse ps) p = reverse-append (reverse (popped (reverse ps) p)) (p ∷ []) ∙ ap (λ (l : List Point). p ∷ l) (reverse-reverse (popped (reverse ps) p)) in
    subst (Falling q) (sym e) (h, falling_popped p (reverse ps) p f)

-- one reading alone: every slope
pub bounds_one : (a b : Point) → a.tick ≡ b.tick → (a.height +ℤ b.height) ≤ℤ pos 0 → Bounds (a ∷ []) (b ∷ []) (negsuc 0, pos 0) (negsuc 0, pos 0)
unfolding Bound
bounds_one a b e h = record {
  enough = λ r u hu p q. ((own r u a b hu e h, tt), tt);
  needed = λ r u hu s. (omega (arith, ints), omega (arith, ints));
  low = inr (refl, omega (arith, ints));
  high = inr (refl, omega (arith, ints));
}
