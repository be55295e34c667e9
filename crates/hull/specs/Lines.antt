-- The lines that readings allow. Their low ends are ls, and their high ends, turned over, ms.
use Rattle.std.specs.Prelude.{List, ℤ, pos, ◌*ℤ◌, neg_ℤ, ◌≤ℤ◌, ◌<ℤ◌}
use Rattle.std.specs.List.{AllByRecursion}
use Rattle.slope.specs.Slopes.{Slope, AtMost, Bound}
use Rattle.hull.specs.declared.point.Point.{Point}
use Rattle.hull.specs.Points.{NotBelow, Apart}

-- the line whose height at t is (r · t + k) / u is not below the low ends, nor above the high ends
pub record Serves (ls ms : List Point) (r u k : ℤ) : Type 0 where
  pub over : pos 0 <ℤ u
  pub lows : AllByRecursion (NotBelow r u k) ls
  pub highs : AllByRecursion (NotBelow (neg_ℤ r) u (neg_ℤ k)) ms

-- each low end has room under each high end at slope r / u
abbrev pub Slopes : List Point → List Point → ℤ → ℤ → Type 0
Slopes ls ms r u = AllByRecursion (λ a. AllByRecursion (λ m. Apart r u a m) ms) ls

-- r / u is allowed exactly from `least` to `fall` turned over
pub record Bounds (ls ms : List Point) (least fall : Slope) : Type 0 where
  pub enough : (r u : ℤ) → pos 0 <ℤ u → AtMost least r u → AtMost fall (neg_ℤ r) u → Slopes ls ms r u
  pub needed : (r u : ℤ) → pos 0 <ℤ u → Slopes ls ms r u → AtMost least r u × AtMost fall (neg_ℤ r) u
  pub low : Bound least
  pub high : Bound fall

-- within ±1,000,000 times u
abbrev pub Within : ℤ → ℤ → Type 0
Within u x = ((u *ℤ neg_ℤ (pos 1000000)) ≤ℤ x) × (x ≤ℤ (u *ℤ pos 1000000))
