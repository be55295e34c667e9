-- What the numbers of a state keep: the bounds of the slope are what the hulls leave, so that some line is always allowed.
use Rattle.std.specs.Prelude.{◌≡◌, ℕ, ◌<◌, true, reverse, ℤ, pos, ◌+ℤ◌, ◌*ℤ◌}
use Rattle.std.specs.List.{AllByRecursion}
use Rattle.slope.specs.Slopes.{Slope, Small, meeting}
use Rattle.hull.specs.declared.point.Point.{Point}
use Rattle.hull.specs.declared.hull.Hull.{Hull}
use Rattle.hull.specs.Points.{Near}
use Rattle.hull.specs.Hulls.{ends, Falling}
use Rattle.hull.specs.Lines.{Serves, Bounds, Within}

pub record Sound (lows highs : Hull) (least fall : Slope) (first last : ℕ) : Type 0 where
  pub bounds : Bounds (ends lows) (ends highs) least fall
  pub some : meeting least fall ≡ true
  pub lows_fall : (p : Point) → last < p.tick → Falling p (reverse (ends lows))
  pub highs_fall : (p : Point) → last < p.tick → Falling p (reverse (ends highs))
  pub lows_near : AllByRecursion (Near first) (ends lows)
  pub highs_near : AllByRecursion (Near first) (ends highs)
  pub least_small : Small least
  pub fall_small : Small fall
  -- where a reading was taken, each line that serves is within the range at the first and at the last tick
  pub edges : 0 < lows.len → (r u k : ℤ) → Serves (ends lows) (ends highs) r u k → Within u (r *ℤ pos first +ℤ k) × Within u (r *ℤ pos last +ℤ k)
