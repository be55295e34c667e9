-- What a reading brings to a state.
use Rattle.std.specs.Prelude.{◌≡◌, ℕ, Option, MatchOption}
use Rattle.family.specs.Readings.{Reading}
use Rattle.family.specs.Meaning.{Fits}
use Rattle.line.specs.declared.line.Line.{Line}
use Rattle.line.specs.declared.step.Step.{Step}
use Rattle.hull.specs.Hulls.{ends, steepest_to}
use Rattle.line.specs.Choices.{low_end, high_end}
use Rattle.line.specs.LineMeaning.{line_meaning, Reaches}
use Rattle.line.specs.declared.taken.Taken.{Taken}
use Rattle.line.specs.Picks.{where_none}
use Rattle.line.specs.Spans.{first_of}

-- the step that a reading is to a state: the ends of its band, and the bounds of the slope and the span with it taken
pub record Stepped (s : Line) (r : Reading) (d : Step) : Type 0 where
  pub low : d.low ≡ low_end r
  pub high : d.high ≡ high_end r
  pub least : d.bounds.least ≡ steepest_to (low_end r) s.bounds.least (ends s.highs)
  pub fall : d.bounds.fall ≡ steepest_to (high_end r) s.bounds.fall (ends s.lows)
  pub first : d.span.first ≡ where_none s.lows.len r.tick (first_of s.span)
  pub last : d.span.last ≡ r.tick

-- the step, if any, that a reading is: none where it does not fit
abbrev pub Steps : Line → Reading → Option Step → Type 0
Steps s r o = MatchOption o (Fits line_meaning s r → ⊥) (λ d. Fits line_meaning s r × Reaches s r.tick × Stepped s r d)

-- the span with a tick more, if any: none where the tick is not reached
abbrev pub Spans : Line → ℕ → Option Taken → Type 0
Spans s t o = MatchOption o (Reaches s t → ⊥) (λ d. Reaches s t × (d.first ≡ where_none s.lows.len t (first_of s.span)) × (d.last ≡ t))
