-- How refusals are told: a list of checks in order, of which the first that fails is the refusal.
use Rattle.std.specs.Prelude.{◌≡◌, ℕ, Bool, true, false, ◌&&◌, List, Some, None, Option, Result, MatchResult, ◌==◌, nat_le, nat_lt}
use Rattle.words.specs.declared.refusal.Reason.{Reason}
use Rattle.words.specs.declared.refusal.Reason.TheVariants.{RowLength, BadWord, BadTick, NoSegment}
use Rattle.words.specs.declared.refusal.Refusal.{Refusal}
use Rattle.words.specs.Refusals.{refusal_of, refusal_at}
use Rattle.words.specs.Words.{tick_in_range}

-- the first refusal of two
abbrev pub first_refusal : Option Refusal → Option Refusal → Option Refusal
first_refusal (Some f) o = Some f
first_refusal None o = o

abbrev pub refuse_if : Bool → Reason → Option Refusal
refuse_if true why = Some (refusal_of why)
refuse_if false why = None

abbrev pub refuse_unless : Bool → Reason → Option Refusal
refuse_unless true why = None
refuse_unless false why = Some (refusal_of why)

-- the place of a word that fails a test
abbrev pub place_unless : Bool → ℕ → Option ℕ
place_unless true i = None
place_unless false i = Some i

-- the refusal of a wrong word at its place, if there is one
abbrev pub refuse_word : Option ℕ → Option Refusal
refuse_word (Some i) = Some (refusal_at BadWord i)
refuse_word None = None

-- n words are right for a width: there are as many, and the width 65,535 is always wrong
abbrev pub right : ℕ → ℕ → Bool
right width n = nat_lt width 65535 && n == width

abbrev pub tick_refusal : ℕ → Option Refusal
tick_refusal t = refuse_unless (tick_in_range t) BadTick

-- of a row of n words with its first wrong word, where rows have a width
abbrev pub row_refusal : ℕ → ℕ → Option ℕ → Option Refusal
row_refusal width n wrong = first_refusal (refuse_unless (right width n) RowLength) (refuse_word wrong)

-- the tick is from first to last
abbrev pub spans : ℕ → ℕ → ℕ → Bool
spans f l t = nat_le f t && nat_le t l

abbrev pub span_refusal : ℕ → ℕ → ℕ → Option Refusal
span_refusal f l t = refuse_unless (spans f l t) NoSegment

-- an answer: the refusal if one is due, else a value with P
abbrev pub Answered : {X : Type 0} → Option Refusal → Result X Refusal → (X → Type 0) → Type 0
Answered o r P = MatchResult r (λ v. (o ≡ None) × P v) (λ f. o ≡ Some f)

-- an answer that says only that nothing is refused
abbrev pub Passed : Option Refusal → Result Unit Refusal → Type 0
Passed o r = Answered o r (λ _. Unit {0})

-- an answer, and what is then held: `filled`, or under a refusal `left`
abbrev pub Filled : Option Refusal → Result Unit Refusal → List ℕ → List ℕ → List ℕ → Type 0
Filled o r left filled held = MatchResult r (λ _. (o ≡ None) × (held ≡ filled)) (λ f. (o ≡ Some f) × (held ≡ left))
