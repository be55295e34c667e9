-- The dealings with a tape, one relation for each call, and their histories.
use Rattle.std.specs.Prelude.{◌≡◌, ℕ, List, [], length, Ok, Err, Result}
use Rattle.words.specs.declared.refusal.Refusal.{Refusal}
use Rattle.family.specs.Readings.{Reading, ◌▹◌}
use Rattle.family.specs.Meaning.{Meaning}
use Rattle.cuttings.specs.Cutting.{Event, read, mark}
use Rattle.layout.specs.Layout.{opened_store}
use Rattle.reader.specs.Reads.{AnswersRow}
use Rattle.recorder.specs.declared.tape.OpenTape.{OpenTape}
use Rattle.recorder.specs.declared.tape.ClosedTape.{ClosedTape}
use Rattle.recorder.specs.declared.step.Event.TheVariants.{Mark}
use Rattle.recorder.specs.Views.{View}
use Rattle.recorder.specs.Steps.{Outcome, opened_view, opened_refusal, unless_due, outcome_of, closing, answer_by, view_by, store_by, StateBy, Closes}
use Rattle.recorder.specs.Recording.{early_refusal, RecordedBy}
use Rattle.recorder.specs.Asking.{asked}

-- the tape's numbers, the family's state, and the store's words
pub record World (S : Type 0) : Type 0 where
  pub tape : View
  pub state : S
  pub store : List ℕ

abbrev pub world : {S : Type 0} → View → S → List ℕ → World S
world v s ws = record { tape = v; state = s; store = ws }

-- the log of accepted readings and marks after an answer: a refused dealing leaves it as it was
abbrev pub noted : List Event → Reading → Result ℕ Refusal → List Event
noted log r (Ok _) = log ▹ read r
noted log r (Err _) = log

abbrev pub parted : List Event → Result Unit Refusal → List Event
parted log (Ok _) = log ▹ mark
parted log (Err _) = log

module _ {S : Type 0} (m : Meaning S) where
  -- opening over a store that held `before`, whatever the state was
  pub record Opened (before : List ℕ) (after : World S) : Type 0 where
    pub tape : after.tape ≡ opened_view m.pick_width (length before)
    pub words : after.store ≡ opened_store m.pick_width before
    pub state : m.restarted after.state

  abbrev pub Recorded : World S → Reading → Result ℕ Refusal → World S → Type 0
  Recorded w r a w' = RecordedBy m (early_refusal m w.tape (length w.store) r) w.tape w.state w.store r w'.tape w'.state w'.store a

  -- marking: 8, 6
  abbrev pub marking : World S → Outcome
  marking w = unless_due (opened_refusal w.tape m.pick_width (length w.store)) (outcome_of w.tape Mark)

  pub record Marked (w : World S) (a : Result Unit Refusal) (w' : World S) : Type 0 where
    pub answer : a ≡ answer_by (marking w)
    pub tape : w'.tape ≡ view_by w.tape (marking w)
    pub words : w'.store ≡ store_by w.tape (m.words w.state) w.store (marking w)
    pub state : StateBy m w.state w'.state (marking w)

  -- asking alters nothing but the answer row
  abbrev pub Asked : World S → ℕ → List ℕ → Result Unit Refusal → List ℕ → Type 0
  Asked w t row a row' = AnswersRow (asked m w.tape w.state w.store t (length row)) row a row'

  -- closing: 8
  abbrev pub closes : World S → Outcome
  closes w = unless_due (opened_refusal w.tape m.pick_width (length w.store)) (closing w.tape.phase)

  pub record Closed (w : World S) (a : Result ClosedTape (OpenTape × Refusal)) (s' : S) (store' : List ℕ) : Type 0 where
    pub answer : Closes w.tape (closes w) a
    pub words : store' ≡ store_by w.tape (m.words w.state) w.store (closes w)
    pub state : StateBy m w.state s' (closes w)

  -- the accepted readings and marks since the opening, newest last, and the world that the last dealing left
  pub data Dealt : List Event → World S → Type 0 where
    opened : (before : List ℕ) (w : World S) → Opened before w → Dealt [] w
    recorded : (log : List Event) (w w' : World S) (r : Reading) (a : Result ℕ Refusal) → Dealt log w → Recorded w r a w' → Dealt (noted log r a) w'
    marked : (log : List Event) (w w' : World S) (a : Result Unit Refusal) → Dealt log w → Marked w a w' → Dealt (parted log a) w'
    asked_at : (log : List Event) (w : World S) (t : ℕ) (row row' : List ℕ) (a : Result Unit Refusal) → Dealt log w → Asked w t row a row' → Dealt log w
