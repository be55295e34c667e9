-- Why a call is refused: a reason, each with its number, and a place.
use Rattle.std.specs.Prelude.{ℕ}
use Rattle.words.specs.declared.refusal.Reason.{Reason}
use Rattle.words.specs.declared.refusal.Reason.TheVariants.{RowLength, BadWord, NoChoice, Unfitting, BadTick, NothingToMark, NoSegment, OtherStore, WordsLength, NoPlace, Unlawful}
use Rattle.words.specs.declared.refusal.Refusal.{Refusal}

abbrev pub reason_number : Reason → ℕ
reason_number RowLength = 1
reason_number BadWord = 2
reason_number NoChoice = 3
reason_number Unfitting = 4
reason_number BadTick = 5
reason_number NothingToMark = 6
reason_number NoSegment = 7
reason_number OtherStore = 8
reason_number WordsLength = 9
reason_number NoPlace = 10
reason_number Unlawful = 11

-- a refusal at a place
abbrev pub refusal_at : Reason → ℕ → Refusal
refusal_at why p = record { reason = why; place = p }

-- a refusal at place 0
abbrev pub refusal_of : Reason → Refusal
refusal_of why = refusal_at why 0
