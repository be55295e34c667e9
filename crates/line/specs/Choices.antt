-- The choices of the line family, the readings that they serve, and the choices that a state allows.
use Rattle.std.specs.Prelude.{ℕ, ◌+◌, ◌<◌, ◌≤◌, ℤ, pos, ◌+ℤ◌, ◌*ℤ◌, neg_ℤ, ◌≤ℤ◌, ◌<ℤ◌}
use Rattle.family.specs.Readings.{Reading}
use Rattle.family.specs.Bands.{low_of, high_of}
use Rattle.hull.specs.declared.point.Point.{Point}
use Rattle.hull.specs.declared.hull.Hull.{Hull}
use Rattle.hull.specs.Hulls.{ends}
use Rattle.hull.specs.Lines.{Serves}

-- a start tick, and the line whose height at t is (rise · t + lift) / over; any whole numbers, over above 0
pub record Choice : Type 0 where
  pub start : ℕ
  pub rise : ℤ
  pub over : ℤ
  pub lift : ℤ
  pub above : pos 0 <ℤ over

-- over times the height at t
abbrev pub raised : Choice → ℕ → ℤ
raised c t = c.rise *ℤ pos t +ℤ c.lift

-- the tick is at most 255 past the start, and the line passes through the band
abbrev pub line_serves : Choice → Reading → Type 0
line_serves c r =
    (c.start ≤ r.tick) × (r.tick ≤ c.start + 255)
    × ((c.over *ℤ low_of r.row) ≤ℤ raised c r.tick) × (raised c r.tick ≤ℤ (c.over *ℤ high_of r.row))

abbrev pub point : ℕ → ℤ → Point
point t h = record { tick = t; height = h }

-- the ends of a reading's band; the high end is kept turned over
abbrev pub low_end : Reading → Point
low_end r = point r.tick (low_of r.row)

abbrev pub high_end : Reading → Point
high_end r = point r.tick (neg_ℤ (high_of r.row))

-- with these hulls and these first and last ticks, a choice is still allowed: it starts no later than the first and
-- reaches the last, and its line passes below no low end and above no high end
abbrev pub Allows : Hull → Hull → ℕ → ℕ → Choice → Type 0
Allows lows highs first last c =
    (0 < lows.len → (c.start ≤ first) × (last ≤ c.start + 255))
    × Serves (ends lows) (ends highs) c.rise c.over c.lift
