-- Lines that are not below the points of a hull.
use Rattle.std.proofs.Common.{◌≡◌, ◌<◌, Bool, true, false, cond, not, List, [], ◌∷◌, ℤ, pos, ◌-ℤ◌, ◌*ℤ◌, neg_ℤ, ◌<ℤ◌, refl, arith}
use Rattle.std.specs.List.{AllByRecursion}
use Rattle.std.proofs.ByRecursion.{All-weaker}
use Rattle.std.proofs.lemmas.Int.{ints, by_lt_z}
use Rattle.slope.proofs.Ring.{ring, lins}
use Rattle.hull.specs.declared.point.Point.{Point}
use Rattle.hull.specs.Points.{bends, NotBelow, Apart}
use Rattle.hull.specs.Hulls.{covered, popped, Falling}
use Rattle.hull.proofs.Between.{between}

-- a hull loses no line
point_between : (r u k : ℤ) (a b c : Point) → pos 0 <ℤ u → a.tick < b.tick → b.tick < c.tick → bends a b c ≡ false → NotBelow r u k a → NotBelow r u k c → NotBelow r u k b
point_between r u k a b c hu p q e ha hc = between (pos a.tick) a.height (pos b.tick) b.height (pos c.tick) c.height r u k (omega (arith, ints)) (omega (arith, ints)) hu (omega (arith, lins)) ha hc

falling_on : (p b : Point) (rest : List Point) → b.tick < p.tick → Falling b rest → Falling p rest
falling_on p b [] h f = tt
falling_on p b (a ∷ rest) h f = (omega arith, f.1)

pub unpopped : (r u k : ℤ) (p : Point) (l : List Point) → pos 0 <ℤ u → Falling p l → NotBelow r u k p → AllByRecursion (NotBelow r u k) (popped l p) → AllByRecursion (NotBelow r u k) l
unpopped r u k p [] hu f h g = tt
unpopped r u k p (b ∷ []) hu f h g = g
unpopped r u k p (b ∷ a ∷ rest) hu f h g =
    let go : (t : Bool) → bends a b p ≡ t → AllByRecursion (NotBelow r u k) (cond (not t) (popped (a ∷ rest) p) (b ∷ a ∷ rest)) → AllByRecursion (NotBelow r u k) (b ∷ a ∷ rest)
    = λ t. elim t as (λ t. bends a b p ≡ t → AllByRecursion (NotBelow r u k) (cond (not t) (popped (a ∷ rest) p) (b ∷ a ∷ rest)) → AllByRecursion (NotBelow r u k) (b ∷ a ∷ rest)) [
      | true ↦ λ e x. x
      | false ↦ λ e x. let y : AllByRecursion (NotBelow r u k) (a ∷ rest) = unpopped r u k p (a ∷ rest) hu (falling_on p b (a ∷ rest) f.0 f.1) h x in
          (point_between r u k a b p hu f.1.0 f.0 e y.0 h, y)
    ] in
    go (bends a b p) refl g

-- and takes none in
pub all_popped : (P : Point → Type 0) (p : Point) (l : List Point) → AllByRecursion P l → AllByRecursion P (popped l p)
all_popped P p [] g = tt
all_popped P p (b ∷ rest) g = elim (covered (b ∷ rest) p) as (λ t. AllByRecursion P (cond t (popped rest p) (b ∷ rest))) [ true ↦ all_popped P p rest g.1 | false ↦ g ]

-- a line that is not below the low end a nor above the high end that m is has a slope at which they are apart
pub apart : (r u k : ℤ) (a m : Point) → NotBelow r u k a → NotBelow (neg_ℤ r) u (neg_ℤ k) m → Apart r u a m
apart r u k a m ha hm = let g = simp ring at hm in simp ring (omega (arith, lins, g))

-- the lowest line of a slope that is not below any of some points: it is not above what is apart from each
pub lowest : (r u : ℤ) (a : Point) (l : List Point) → (k : ℤ) × AllByRecursion (NotBelow r u k) (a ∷ l) × ((m : Point) → AllByRecursion (λ x. Apart r u x m) (a ∷ l) → NotBelow (neg_ℤ r) u (neg_ℤ k) m)
lowest r u a [] = (u *ℤ a.height -ℤ r *ℤ pos a.tick, (omega (arith, lins), tt), λ m h. let g = simp ring at h.0 in simp ring (omega (arith, lins, g)))
lowest r u a (c ∷ l) =
    let n = lowest r u c l in
    by_lt_z n.0 (u *ℤ a.height -ℤ r *ℤ pos a.tick)
    (λ lt. (
      u *ℤ a.height -ℤ r *ℤ pos a.tick,
      (omega (arith, lins), All-weaker (NotBelow r u n.0) (NotBelow r u (u *ℤ a.height -ℤ r *ℤ pos a.tick)) (λ x h. omega (arith, lins)) (c ∷ l) n.1),
      λ m h. let g = simp ring at h.0 in simp ring (omega (arith, lins, g)),
    ))
    (λ le. (n.0, (omega (arith, lins), n.1), λ m h. n.2 m h.1))
