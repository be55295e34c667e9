-- What the line family means.
use Rattle.std.specs.Prelude.{◌≡◌, ℕ, ◌+◌, ◌<◌, ◌≤◌, ℤ, pos, ◌+ℤ◌, ◌*ℤ◌, ◌≤ℤ◌, ◌<ℤ◌, Some, None, int_lt, slice_index, unsigned_abs}
use Rattle.words.specs.declared.kind.Kind.TheVariants.{Level as LevelKind}
use Rattle.words.specs.Words.{number_in}
use Rattle.family.specs.Readings.{Reading}
use Rattle.family.specs.Meaning.{Meaning}
use Rattle.family.specs.Bands.{band_wrong, low_of, high_of, Within}
use Rattle.line.specs.declared.line.Line.{Line}
use Rattle.line.specs.declared.pick.Pick.{Pick}
use Rattle.slope.specs.Slopes.{Slope, Coprime, unbounded, slope_of}
use Rattle.hull.specs.Hulls.{ends, pushed, steepest_to, topmost}
use Rattle.hull.specs.Points.{lift}
use Rattle.line.specs.Choices.{Choice, line_serves, low_end, high_end, Allows}
use Rattle.line.specs.Picks.{where_none, pick_of, lift_of, pick_words, words_lawful, value_words}
use Rattle.line.specs.Spans.{first_of, last_of}

-- the choices that a state allows
abbrev pub line_allows : Line → Choice → Type 0
line_allows s c = Allows s.lows s.highs (first_of s.span) (last_of s.span) c

-- the slope that a state picks: the allowed one nearest 0, in lowest terms
abbrev pub line_slope : Line → Slope
line_slope s = slope_of s.bounds.least s.bounds.fall

-- the choice that a state picks: of this slope the line through the low end that is highest against it
abbrev pub line_picked : Line → Choice
line_picked s = record {
  start = first_of s.span;
  rise = (line_slope s).0;
  over = (line_slope s).1;
  lift = lift (line_slope s) (topmost (line_slope s) (ends s.lows));
  above = s.positive;
}

-- the words of it, as numbers
abbrev pub line_pick : Line → Pick
line_pick s = pick_of s.lows s.bounds.least s.bounds.fall (first_of s.span)

-- a reading comes after the last one taken, if any was, and at most 255 ticks after the first
abbrev pub Reaches : Line → ℕ → Type 0
Reaches s t = 0 < s.lows.len → (last_of s.span < t) × (t ≤ first_of s.span + 255)

-- from s, by taking a reading that comes later, to t: each hull is pushed by itself, and the bounds of the slope move
pub record Took (s : Line) (r : Reading) (t : Line) : Type 0 where
  pub later : 0 < s.lows.len → last_of s.span < r.tick
  pub lows : ends t.lows ≡ pushed (ends s.lows) (low_end r)
  pub highs : ends t.highs ≡ pushed (ends s.highs) (high_end r)
  pub least : t.bounds.least ≡ steepest_to (low_end r) s.bounds.least (ends s.highs)
  pub fall : t.bounds.fall ≡ steepest_to (high_end r) s.bounds.fall (ends s.lows)
  pub first : first_of t.span ≡ where_none s.lows.len r.tick (first_of s.span)
  pub last : last_of t.span ≡ r.tick

-- nothing is taken
pub record Bare (s : Line) : Type 0 where
  pub lows : s.lows.len ≡ 0
  pub highs : s.highs.len ≡ 0
  pub least : s.bounds.least ≡ unbounded
  pub fall : s.bounds.fall ≡ unbounded
  pub first : first_of s.span ≡ 0
  pub last : last_of s.span ≡ 0

abbrev pub line_meaning : Meaning Line
line_meaning = record {
  choice = Choice;
  serves = line_serves;
  meets = λ value row. Within row (number_in LevelKind (slice_index value 0));
  row_width = 2;
  pick_width = 4;
  value_width = 1;
  wrong_word = λ r. band_wrong r.row;
  unserved = λ r. int_lt (high_of r.row) (low_of r.row);
  allows = line_allows;
  last = λ s. where_none s.lows.len None (Some (last_of s.span));
  restarted = Bare;
  taken = Took;
  picked = line_picked;
  words = λ s. pick_words (line_pick s);
  lawful = words_lawful;
  value = value_words;
}

-- the line that a pick says, from a start tick on
abbrev pub line_of : (p : Pick) → ℕ → pos 0 <ℤ pos p.over → Choice
line_of p start above = record { start = start; rise = p.rise; over = pos p.over; lift = lift_of p; above = above }

-- what the pick of a state that has taken a reading is, among the allowed choices: its slope is the nearest to 0, in lowest
-- terms; of this slope it is the lowest; and its pivot is the first tick, from the run's first on, at which its height is whole
pub record Chosen (s : Line) (p : Pick) : Type 0 where
  pub above : pos 0 <ℤ pos p.over
  pub allowed : line_allows s (line_of p (first_of s.span) above)
  pub nearest : (c : Choice) → line_allows s c → (pos (unsigned_abs p.rise) *ℤ c.over) ≤ℤ (pos (unsigned_abs c.rise) *ℤ pos p.over)
  pub lowest : (c : Choice) → line_allows s c → c.rise *ℤ pos p.over ≡ p.rise *ℤ c.over → (c.over *ℤ lift_of p) ≤ℤ (pos p.over *ℤ c.lift)
  pub coprime : Coprime p.rise (pos p.over)
  pub from : first_of s.span ≤ p.pivot
  pub soonest : (t : ℕ) (h : ℤ) → first_of s.span ≤ t → p.rise *ℤ pos t +ℤ lift_of p ≡ pos p.over *ℤ h → p.pivot ≤ t
