-- Hulls as lists of points, oldest first: what a push leaves, the steepest slope to a point, and the highest point against a slope.
use Rattle.std.specs.Prelude.{◌<◌, Bool, false, cond, not, List, [], ◌∷◌, ◌++◌, reverse, take, pos, fold, slice_index_or}
use Rattle.slope.specs.Slopes.{Slope, steeper}
use Rattle.hull.specs.declared.point.Point.{Point}
use Rattle.hull.specs.declared.hull.Hull.{Hull}
use Rattle.hull.specs.Points.{reaching, bends, higher}

-- the points that count
abbrev pub ends : Hull → List Point
ends h = take h.len h.points

-- newest first: the last point lies on or under the piece from the one before it to p
abbrev pub covered : List Point → Point → Bool
covered [] p = false
covered (b ∷ []) p = false
covered (b ∷ a ∷ rest) p = not (bends a b p)

-- newest first: such points go, one after the other
abbrev pub popped : List Point → Point → List Point
popped [] p = []
popped (b ∷ rest) p = cond (covered (b ∷ rest) p) (popped rest p) (b ∷ rest)

-- oldest first: what is left of a hull
abbrev pub uncovered : List Point → Point → List Point
uncovered ps p = reverse (popped (reverse ps) p)

-- what a push of p leaves: p comes last
abbrev pub pushed : List Point → Point → List Point
pushed ps p = uncovered ps p ++ (p ∷ [])

-- newest first: each point is earlier than the one before it in the list, and all are earlier than p
abbrev pub Falling : Point → List Point → Type 0
Falling p [] = Unit {0}
Falling p (b ∷ rest) = (b.tick < p.tick) × Falling b rest

-- the steepest of a slope and those from the points, turned over, to a point
abbrev pub steepest_to : Point → Slope → List Point → Slope
steepest_to to start ps = fold (λ s p. steeper s (reaching p to)) start ps

-- the point at tick 0 and height 0, which stands where a list has none
abbrev pub origin : Point
origin = record { tick = 0; height = pos 0 }

-- the first of the points that are highest against slope s
abbrev pub topmost : Slope → List Point → Point
topmost s ps = fold (higher s) (slice_index_or ps 0 origin) ps
