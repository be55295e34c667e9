-- What a checked tape answers: a slice of words, the picks' width and the number of records, with no record checked again.
use Rattle.std.specs.Prelude.{◌≡◌, ℕ, zero, suc, ◌+◌, cond, List, length, None, Ok, Err, Result}
use Rattle.words.specs.declared.refusal.Reason.TheVariants.{NoSegment}
use Rattle.words.specs.declared.refusal.Refusal.{Refusal}
use Rattle.words.specs.Refusals.{refusal_of}
use Rattle.family.specs.Refusing.{first_refusal}
use Rattle.family.specs.Meaning.{Meaning, value_refusal}
use Rattle.layout.specs.Layout.{record_at, first_in, last_in, pick_in}
use Rattle.layout.specs.Records.{record_spans}
use Rattle.reader.specs.Tapes.{told_count, tape_fault, refuse_tape}
use Rattle.reader.specs.Reads.{unless_refused, row_tick_refusal, AnswersRow}

-- the first of k records from record i on whose two ticks span tick t; 7 where none does
abbrev pub find_span : ℕ → List ℕ → ℕ → ℕ → ℕ → Result ℕ Refusal
find_span w store t zero i = Err (refusal_of NoSegment)
find_span w store t (suc k) i = cond (record_spans (record_at w store i) t) (Ok i) (find_span w store t k (i + 1))

module _ {S : Type 0} (m : Meaning S) where
  -- the words are a lawful tape with picks of the width w, and n records
  pub record Opened (store : List ℕ) (w n : ℕ) : Type 0 where
    pub lawful : refuse_tape (tape_fault m store) ≡ None
    pub width : w ≡ m.pick_width
    pub count : n ≡ told_count store

  -- the value that a record's words say at tick t, into a row of n words, by the family's own call: 9, 5, 11, 7
  abbrev pub record_value : List ℕ → ℕ → ℕ → Result (List ℕ) Refusal
  record_value ws t n =
      unless_refused (value_refusal m (pick_in ws) (first_in ws) (last_in ws) t n) (Ok (m.value (pick_in ws) t))

  -- the value that the found record says
  abbrev pub span_value : ℕ → List ℕ → ℕ → ℕ → Result ℕ Refusal → Result (List ℕ) Refusal
  span_value w store t n (Ok i) = record_value (record_at w store i) t n
  span_value w store t n (Err f) = Err f

  -- the record of a checked tape that answers for tick t into a row of n words: 9, 5, 7
  abbrev pub located : ℕ → List ℕ → ℕ → ℕ → ℕ → Result ℕ Refusal
  located w store count t n = unless_refused (row_tick_refusal m n t) (find_span w store t count 0)

  -- the same on words not yet checked: 9, 5, 11, 7
  abbrev pub located_in : List ℕ → ℕ → ℕ → Result ℕ Refusal
  located_in store t n =
      unless_refused (first_refusal (row_tick_refusal m n t) (refuse_tape (tape_fault m store)))
      (find_span m.pick_width store t (told_count store) 0)

  -- what a checked tape answers for tick t, and the row then: 9, 5, 7, with every word 0 under a refusal
  abbrev pub CheckedRead : ℕ → List ℕ → ℕ → ℕ → List ℕ → Result Unit Refusal → List ℕ → Type 0
  CheckedRead w store count t row a row' = AnswersRow (span_value w store t (length row) (located w store count t (length row))) row a row'
