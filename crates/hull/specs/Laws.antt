-- What a push, the steepest slope and the highest point are, in terms of all lines and points.
use Rattle.std.specs.Prelude.{◌≡◌, ℕ, ◌<◌, List, ◌∷◌, reverse, length, ℤ, pos, ◌+ℤ◌, ◌≤ℤ◌, ◌<ℤ◌, slice_index_or}
use Rattle.std.specs.List.{AllByRecursion}
use Rattle.slope.specs.Slopes.{Slope, AtMost, Bound}
use Rattle.hull.specs.declared.point.Point.{Point}
use Rattle.hull.specs.Points.{reaching, NotBelow, lift}
use Rattle.hull.specs.Hulls.{origin, pushed, Falling, steepest_to, topmost}
use Rattle.hull.specs.Lines.{Serves, Slopes, Bounds}

-- after a push of a later point, a line is not below the hull exactly where it is below neither the point nor the old hull
abbrev pub LosesNoLine : Type 0
LosesNoLine = (ps : List Point) (p : Point) → Falling p (reverse ps) → (r u k : ℤ) → pos 0 <ℤ u
    → (AllByRecursion (NotBelow r u k) (pushed ps p) → AllByRecursion (NotBelow r u k) (p ∷ ps)) × (AllByRecursion (NotBelow r u k) (p ∷ ps) → AllByRecursion (NotBelow r u k) (pushed ps p))

-- the steepest of `start` and the slopes from earlier points is at most r / u exactly where each of them is
abbrev pub TightestBound : Type 0
TightestBound = (to : Point) (start : Slope) (ps : List Point) → Bound start → AllByRecursion (λ p. p.tick < to.tick) ps → (r u : ℤ) → pos 0 <ℤ u
    → (AtMost (steepest_to to start ps) r u → AtMost start r u × AllByRecursion (λ p. AtMost (reaching p to) r u) ps)
    × (AtMost start r u → AllByRecursion (λ p. AtMost (reaching p to) r u) ps → AtMost (steepest_to to start ps) r u)

-- with one reading more, from the low end a to the high end that b is, turned over, each bound tightens to the steepest slope from the other hull
abbrev pub OneReadingMore : Type 0
OneReadingMore = (ls ms : List Point) (least fall : Slope) (a b : Point) → Bounds ls ms least fall → a.tick ≡ b.tick → (a.height +ℤ b.height) ≤ℤ pos 0
    → AllByRecursion (λ x. x.tick < b.tick) ls → AllByRecursion (λ y. y.tick < a.tick) ms → Bounds (a ∷ ls) (b ∷ ms) (steepest_to a least ms) (steepest_to b fall ls)

-- q stands among the points, none is higher against slope s, and each before it is lower
pub record FirstAmong (s : Slope) (ps : List Point) (q : Point) : Type 0 where
  pub place : ℕ
  pub inside : place < length ps
  pub there : q ≡ slice_index_or ps place origin
  pub none : AllByRecursion (λ p. lift s p ≤ℤ lift s q) ps
  pub before : (j : ℕ) → j < place → lift s (slice_index_or ps j origin) <ℤ lift s q

-- the highest point against a slope is the first such
abbrev pub FirstHighest : Type 0
FirstHighest = (s : Slope) (ps : List Point) → 0 < length ps → FirstAmong s ps (topmost s ps)

-- some line of slope r / u serves the readings exactly where each low end has room under each high end at that slope
abbrev pub PairsSuffice : Type 0
PairsSuffice = (ls ms : List Point) (r u : ℤ) → 0 < length ls → pos 0 <ℤ u
    → (Slopes ls ms r u → (k : ℤ) × Serves ls ms r u k) × ((k : ℤ) → Serves ls ms r u k → Slopes ls ms r u)

-- of the lines of a slope that serve the readings, the lowest goes through the highest low end against the slope
abbrev pub LowestLine : Type 0
LowestLine = (ls ms : List Point) (r u : ℤ) → 0 < length ls → pos 0 <ℤ u → Slopes ls ms r u
    → Serves ls ms r u (lift (r, u) (topmost (r, u) ls)) × ((k : ℤ) → Serves ls ms r u k → lift (r, u) (topmost (r, u) ls) ≤ℤ k)
