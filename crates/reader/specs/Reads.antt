-- What reading a closed tape answers, on any slice of words at all.
use Rattle.std.specs.Prelude.{◌≡◌, ℕ, List, length, replicate, Some, None, Ok, Err, Option, Result, nat_lt}
use Rattle.words.specs.declared.refusal.Reason.TheVariants.{NoSegment, WordsLength}
use Rattle.words.specs.declared.refusal.Refusal.{Refusal}
use Rattle.family.specs.Refusing.{first_refusal, refuse_unless, right, tick_refusal}
use Rattle.family.specs.Meaning.{Meaning}
use Rattle.layout.specs.Layout.{record_at, pick_in}
use Rattle.layout.specs.Records.{find}
use Rattle.reader.specs.Tapes.{told_count, tape_fault, refuse_tape}

-- the refusal if one is due, else the answer
abbrev pub unless_refused : {X : Type 0} → Option Refusal → Result X Refusal → Result X Refusal
unless_refused None a = a
unless_refused (Some f) a = Err f

-- an answer, and the row then: the value, or under a refusal every word 0
abbrev pub AnswersRow : Result (List ℕ) Refusal → List ℕ → Result Unit Refusal → List ℕ → Type 0
AnswersRow (Ok v) row (Ok _) row' = row' ≡ v
AnswersRow (Ok v) row (Err _) row' = ⊥
AnswersRow (Err f) row (Ok _) row' = ⊥
AnswersRow (Err f) row (Err g) row' = (g ≡ f) × (row' ≡ replicate (length row) 0)

module _ {S : Type 0} (m : Meaning S) where
  -- a row of n words and a tick: 9, 5
  abbrev pub row_tick_refusal : ℕ → ℕ → Option Refusal
  row_tick_refusal n t = first_refusal (refuse_unless (right m.value_width n) WordsLength) (tick_refusal t)

  -- the value that the found record says
  abbrev pub value_of : List ℕ → ℕ → Result ℕ Refusal → Result (List ℕ) Refusal
  value_of store t (Ok i) = Ok (m.value (pick_in (record_at m.pick_width store i)) t)
  value_of store t (Err f) = Err f

  -- the value at tick t, into a row of n words: 9, 5, 11, 7
  abbrev pub value_read : List ℕ → ℕ → ℕ → Result (List ℕ) Refusal
  value_read store t n =
      unless_refused (first_refusal (row_tick_refusal n t) (refuse_tape (tape_fault m store)))
      (value_of store t (find m m.pick_width store t (told_count store) 0))

  abbrev pub ValueRead : List ℕ → ℕ → List ℕ → Result Unit Refusal → List ℕ → Type 0
  ValueRead store t row a row' = AnswersRow (value_read store t (length row)) row a row'

  -- item i: 11, 7
  abbrev pub item_refusal : List ℕ → ℕ → Option Refusal
  item_refusal store i = first_refusal (refuse_tape (tape_fault m store)) (refuse_unless (nat_lt i (told_count store)) NoSegment)
