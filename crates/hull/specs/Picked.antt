-- What the words of a pick are: the lowest line of the slope nearest 0 that serves a run, by its first whole height.
use Rattle.std.specs.Prelude.{◌≡◌, ℕ, ◌+◌, ◌<◌, ◌≤◌, List, ℤ, pos, ◌+ℤ◌, ◌-ℤ◌, ◌*ℤ◌, neg_ℤ, ◌≤ℤ◌, unsigned_abs}
use Rattle.slope.specs.Slopes.{Coprime}
use Rattle.slope.specs.Values.{value_at}
use Rattle.hull.specs.declared.point.Point.{Point}
use Rattle.hull.specs.Lines.{Serves}

-- the k of the line of slope rise / over that has this height at the pivot
abbrev pub offset : ℕ → ℤ → ℤ → ℕ → ℤ
offset pivot height rise over = pos over *ℤ height -ℤ rise *ℤ pos pivot

-- what the words of a pick are, for a run from its first tick to its last, whose low ends are ls and whose high ends, turned over, are ms
pub record Picked (ls ms : List Point) (first last pivot : ℕ) (height rise : ℤ) (over : ℕ) : Type 0 where
  -- the line serves the readings
  pub serves : Serves ls ms rise (pos over) (offset pivot height rise over)
  -- no line that does has a slope nearer 0, and none of this slope is lower
  pub nearest : (r u k : ℤ) → Serves ls ms r u k → (pos (unsigned_abs rise) *ℤ u) ≤ℤ (pos (unsigned_abs r) *ℤ pos over)
  pub lowest : (k : ℤ) → Serves ls ms rise (pos over) k → offset pivot height rise over ≤ℤ k
  -- the slope is in least terms
  pub coprime : Coprime rise (pos over)
  -- the pivot is the first tick of the run at which the line has a whole height
  pub from : first ≤ pivot
  pub soonest : (t : ℕ) (h : ℤ) → first ≤ t → rise *ℤ pos t +ℤ offset pivot height rise over ≡ pos over *ℤ h → pivot ≤ t
  pub upto : pivot ≤ last
  pub near : pivot < first + over
  -- each word is in its range
  pub over_small : over ≤ 255
  pub rise_low : neg_ℤ (pos 2000000) ≤ℤ rise
  pub rise_high : rise ≤ℤ pos 2000000
  pub height_low : neg_ℤ (pos 1000000) ≤ℤ height
  pub height_high : height ≤ℤ pos 1000000
  -- the value at a tick lies in each band, from low to high, in which the line lies there
  pub back : (t : ℕ) (low high : ℤ) → (pos over *ℤ low) ≤ℤ (rise *ℤ pos t +ℤ offset pivot height rise over) → (rise *ℤ pos t +ℤ offset pivot height rise over) ≤ℤ (pos over *ℤ high)
      → (low ≤ℤ value_at pivot height rise over t) × (value_at pivot height rise over t ≤ℤ high)
  -- the value at each tick of the run is in range
  pub inside : (t : ℕ) → first ≤ t → t ≤ last → (neg_ℤ (pos 1000000) ≤ℤ value_at pivot height rise over t) × (value_at pivot height rise over t ≤ℤ pos 1000000)
