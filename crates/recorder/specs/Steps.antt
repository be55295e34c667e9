-- What an open tape is, and what an event makes of it: fitting, not fitting, or a mark.
use Rattle.std.specs.Prelude.{◌≡◌, ℕ, ◌+◌, ◌≤◌, Bool, true, false, cond, ◌&&◌, List, Some, None, Ok, Err, Option, Result, ◌==◌, nat_lt}
use Rattle.words.specs.declared.refusal.Reason.TheVariants.{BadTick, NothingToMark, OtherStore, NoPlace}
use Rattle.words.specs.declared.refusal.Refusal.{Refusal}
use Rattle.words.specs.Refusals.{refusal_of}
use Rattle.family.specs.Refusing.{refuse_unless}
use Rattle.family.specs.Meaning.{Meaning}
use Rattle.layout.specs.Layout.{places_of, with_record}
use Rattle.recorder.specs.declared.tape.Phase.{Phase}
use Rattle.recorder.specs.declared.tape.Phase.TheVariants.{Fresh, Waiting, Running}
use Rattle.recorder.specs.declared.tape.OpenTape.{OpenTape}
use Rattle.recorder.specs.declared.tape.ClosedTape.{ClosedTape}
use Rattle.recorder.specs.declared.step.Event.{Event}
use Rattle.recorder.specs.declared.step.Event.TheVariants.{Fitting, Unfitting, Mark}
use Rattle.recorder.specs.Phases.{open_last}
use Rattle.recorder.specs.Views.{View}

-- a tape just opened over a store of n words, for picks of width w
abbrev pub opened_view : ℕ → ℕ → View
opened_view w n = record { width = w; length = n; places = places_of w n; written = 0; phase = Fresh }

-- 8: the pick's width and the store's length are as at opening
abbrev pub opened_refusal : View → ℕ → ℕ → Option Refusal
opened_refusal v w n = refuse_unless (w == v.width && n == v.length) OtherStore

-- 5: the tick is above the last accepted one
abbrev pub late_refusal : Phase → ℕ → Option Refusal
late_refusal Fresh t = None
late_refusal (Waiting l) t = refuse_unless (nat_lt l t) BadTick
late_refusal (Running _ l _) t = refuse_unless (nat_lt l t) BadTick

-- what an event comes to: refused; the open run gets longer; a batch is begun; the open run is cut and a new one begins at a
-- tick; the open run is ended; nothing is open, so nothing is written
pub data Outcome : Type 0 where
  refused : Refusal → Outcome
  longer : ℕ → ℕ → Bool → Outcome
  begun : ℕ → Outcome
  cut : ℕ → ℕ → Bool → ℕ → Outcome
  ended : ℕ → ℕ → Bool → Outcome
  idle : Outcome

-- with n records written and p places
abbrev pub outcome : ℕ → ℕ → Phase → Event → Outcome
outcome n p (Running f l b) (Fitting t) = longer f t b
outcome n p (Running f l b) (Unfitting t) = cond (nat_lt (n + 1) p) (cut f l b t) (refused (refusal_of NoPlace))
outcome n p (Running f l b) Mark = ended f l b
outcome n p Fresh (Fitting t) = cond (nat_lt n p) (begun t) (refused (refusal_of NoPlace))
outcome n p Fresh (Unfitting t) = cond (nat_lt n p) (begun t) (refused (refusal_of NoPlace))
outcome n p Fresh Mark = refused (refusal_of NothingToMark)
outcome n p (Waiting _) (Fitting t) = cond (nat_lt n p) (begun t) (refused (refusal_of NoPlace))
outcome n p (Waiting _) (Unfitting t) = cond (nat_lt n p) (begun t) (refused (refusal_of NoPlace))
outcome n p (Waiting _) Mark = refused (refusal_of NothingToMark)

abbrev pub outcome_of : View → Event → Outcome
outcome_of v e = outcome v.written v.places v.phase e

-- closing ends the open run, if any
abbrev pub closing : Phase → Outcome
closing Fresh = idle
closing (Waiting _) = idle
closing (Running f l b) = ended f l b

-- a refusal before all else
abbrev pub unless_due : Option Refusal → Outcome → Outcome
unless_due None o = o
unless_due (Some f) o = refused f

-- the answer, the tape, the store and the family's state, by the outcome
abbrev pub answer_by : Outcome → Result Unit Refusal
answer_by (refused f) = Err f
answer_by (longer _ _ _) = Ok tt
answer_by (begun _) = Ok tt
answer_by (cut _ _ _ _) = Ok tt
answer_by (ended _ _ _) = Ok tt
answer_by idle = Ok tt

abbrev pub with_phase : View → ℕ → Phase → View
with_phase v n q = record { width = v.width; length = v.length; places = v.places; written = n; phase = q }

abbrev pub view_by : View → Outcome → View
view_by v (refused _) = v
view_by v (longer f l b) = with_phase v v.written (Running f l b)
view_by v (begun t) = with_phase v v.written (Running t t true)
view_by v (cut f l b t) = with_phase v (v.written + 1) (Running t t false)
view_by v (ended f l b) = with_phase v (v.written + 1) (Waiting l)
view_by v idle = v

-- the picked words are written as the next record where a run is cut or ended
abbrev pub store_by : View → List ℕ → List ℕ → Outcome → List ℕ
store_by v pick store (refused _) = store
store_by v pick store (longer _ _ _) = store
store_by v pick store (begun _) = store
store_by v pick store (cut f l b t) = with_record v.width v.written f l b pick store
store_by v pick store (ended f l b) = with_record v.width v.written f l b pick store
store_by v pick store idle = store

-- the family restarts where a run is written or begun
abbrev pub StateBy : {S : Type 0} → Meaning S → S → S → Outcome → Type 0
StateBy m s t (refused _) = t ≡ s
StateBy m s t (longer _ _ _) = t ≡ s
StateBy m s t (begun _) = m.restarted t
StateBy m s t (cut _ _ _ _) = m.restarted t
StateBy m s t (ended _ _ _) = m.restarted t
StateBy m s t idle = t ≡ s

-- an event's tick is in range, and not before the last accepted one
abbrev pub Timely : Phase → Event → Type 0
Timely q (Fitting t) = (open_last q ≤ t) × (t ≤ 268435455)
Timely q (Unfitting t) = (open_last q ≤ t) × (t ≤ 268435455)
Timely q Mark = Unit {0}

-- closing's answer: the closed tape with its number of segments, or the open tape back with the refusal
abbrev pub Closes : View → Outcome → Result ClosedTape (OpenTape × Refusal) → Type 0
Closes v (refused f) (Ok k) = ⊥
Closes v (refused f) (Err p) = (p.0 ≡ v) × (p.1 ≡ f)
Closes v (longer _ _ _) r = ⊥
Closes v (begun _) r = ⊥
Closes v (cut _ _ _ _) r = ⊥
Closes v (ended _ _ _) (Ok k) = k.segments ≡ v.written + 1
Closes v (ended _ _ _) (Err p) = ⊥
Closes v idle (Ok k) = k.segments ≡ v.written
Closes v idle (Err p) = ⊥
