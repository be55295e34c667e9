-- What asking at a tick comes to.
use Rattle.std.specs.Prelude.{ℕ, cond, List, length, Ok, Err, Result}
use Rattle.words.specs.declared.refusal.Reason.TheVariants.{Unlawful}
use Rattle.words.specs.declared.refusal.Refusal.{Refusal}
use Rattle.words.specs.Refusals.{refusal_at}
use Rattle.family.specs.Refusing.{first_refusal, spans}
use Rattle.family.specs.Meaning.{Meaning}
use Rattle.layout.specs.Records.{find}
use Rattle.reader.specs.Reads.{unless_refused, row_tick_refusal, value_of}
use Rattle.recorder.specs.declared.tape.Phase.{Phase}
use Rattle.recorder.specs.declared.tape.Phase.TheVariants.{Fresh, Waiting, Running}
use Rattle.recorder.specs.Views.{View}
use Rattle.recorder.specs.Steps.{opened_refusal}

module _ {S : Type 0} (m : Meaning S) where
  -- the value of the open run's present pick: 11 at place 1 where the pick is unlawful for the run
  abbrev pub run_value : List ℕ → ℕ → ℕ → ℕ → Result (List ℕ) Refusal
  run_value pick f l t = cond (m.lawful pick f l) (Ok (m.value pick t)) (Err (refusal_at Unlawful 1))

  -- the open run where it spans the tick, else what the records say
  abbrev pub by_phase : Phase → S → ℕ → Result (List ℕ) Refusal → Result (List ℕ) Refusal
  by_phase Fresh s t rest = rest
  by_phase (Waiting _) s t rest = rest
  by_phase (Running f l _) s t rest = cond (spans f l t) (run_value (m.words s) f l t) rest

  -- the tape's own number of records, read in order up to the first that spans the tick
  abbrev pub records_value : List ℕ → ℕ → ℕ → Result (List ℕ) Refusal
  records_value store n t = value_of m store t (find m m.pick_width store t n 0)

  -- asking at tick t with a row of n words: 8, 9, 5, and then what is found, 11 or 7
  abbrev pub asked : View → S → List ℕ → ℕ → ℕ → Result (List ℕ) Refusal
  asked v s store t n =
      unless_refused (first_refusal (opened_refusal v m.pick_width (length store)) (row_tick_refusal m n t))
      (by_phase v.phase s t (records_value store v.written t))
