-- The steepest of the slopes that a list of points gives: what it is at most, and that it is a bound, a fraction, small.
use Rattle.std.proofs.Common.{true, false, cond, List, [], ◌∷◌, ℤ, pos, ◌<ℤ◌, fold}
use Rattle.std.specs.List.{AllByRecursion}
use Rattle.slope.specs.Slopes.{Slope, steeper, less_steep, AtMost, Bound, Small}
use Rattle.slope.proofs.Fractions.{steeper_out, steeper_in, steeper_bound}
use Rattle.hull.specs.declared.point.Point.{Point}

-- over a list of points, by the slopes that they give
abbrev pub steepest_by : (Point → Slope) → Slope → List Point → Slope
steepest_by f s ps = fold (λ a p. steeper a (f p)) s ps

pub steepest_out : (f : Point → Slope) (s : Slope) (ps : List Point) (r u : ℤ) → Bound s → pos 0 <ℤ u → AllByRecursion (λ p. pos 0 <ℤ (f p).1) ps → AtMost (steepest_by f s ps) r u → AtMost s r u × AllByRecursion (λ p. AtMost (f p) r u) ps
steepest_out f s [] r u hs hu o h = (h, tt)
steepest_out f s (p ∷ ps) r u hs hu o h =
    let i = steepest_out f (steeper s (f p)) ps r u (steeper_bound s (f p) hs o.0) hu o.1 h in
    let j = steeper_out s (f p) r u hs o.0 hu i.0 in
    (j.0, (j.1, i.1))

pub steepest_in : (f : Point → Slope) (s : Slope) (ps : List Point) (r u : ℤ) → AtMost s r u → AllByRecursion (λ p. AtMost (f p) r u) ps → AtMost (steepest_by f s ps) r u
steepest_in f s [] r u h g = h
steepest_in f s (p ∷ ps) r u h g = steepest_in f (steeper s (f p)) ps r u (steeper_in s (f p) r u h g.0) g.1

pub steepest_bound : (f : Point → Slope) (s : Slope) (ps : List Point) → Bound s → AllByRecursion (λ p. pos 0 <ℤ (f p).1) ps → Bound (steepest_by f s ps)
steepest_bound f s [] h o = h
steepest_bound f s (p ∷ ps) h o = steepest_bound f (steeper s (f p)) ps (steeper_bound s (f p) h o.0) o.1

-- after one point the bound is a fraction
pub steepest_over : (f : Point → Slope) (s : Slope) (ps : List Point) → pos 0 <ℤ s.1 → AllByRecursion (λ p. pos 0 <ℤ (f p).1) ps → pos 0 <ℤ (steepest_by f s ps).1
steepest_over f s [] h o = h
steepest_over f s (p ∷ ps) h o = steepest_over f (steeper s (f p)) ps (elim (less_steep s (f p)) as (λ t. pos 0 <ℤ (cond t (f p) s).1) [ true ↦ o.0 | false ↦ h ]) o.1

-- a bound made of small slopes is small
pub steepest_small : (f : Point → Slope) (s : Slope) (ps : List Point) → Small s → AllByRecursion (λ p. Small (f p)) ps → Small (steepest_by f s ps)
steepest_small f s [] h o = h
steepest_small f s (p ∷ ps) h o = steepest_small f (steeper s (f p)) ps (elim (less_steep s (f p)) as (λ t. Small (cond t (f p) s)) [ true ↦ o.0 | false ↦ h ]) o.1
