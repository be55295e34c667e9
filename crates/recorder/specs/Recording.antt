-- What recording a reading comes to.
use Rattle.std.specs.Prelude.{◌≡◌, ℕ, ◌+◌, Bool, true, false, List, Some, None, Ok, Err, Decides, Option, Result}
use Rattle.words.specs.declared.refusal.Refusal.{Refusal}
use Rattle.family.specs.Readings.{Reading}
use Rattle.family.specs.Refusing.{first_refusal}
use Rattle.family.specs.Meaning.{Meaning, Fits, refusal}
use Rattle.recorder.specs.declared.step.Event.{Event}
use Rattle.recorder.specs.declared.step.Event.TheVariants.{Fitting, Unfitting}
use Rattle.recorder.specs.Views.{View}
use Rattle.recorder.specs.Steps.{Outcome, refused, longer, begun, cut, ended, idle, opened_refusal, late_refusal, outcome_of, view_by, store_by}

abbrev pub event_of : Bool → ℕ → Event
event_of true t = Fitting t
event_of false t = Unfitting t

module _ {S : Type 0} (m : Meaning S) where
  -- the refusal that is due before a place is looked for: 8, 5, 1, 2, 3
  abbrev pub early_refusal : View → ℕ → Reading → Option Refusal
  early_refusal v n r = first_refusal (opened_refusal v m.pick_width n) (first_refusal (late_refusal v.phase r.tick) (refusal m r))

  -- a state that was restarted and then took the reading
  pub record Began (r : Reading) (t : S) : Type 0 where
    pub start : S
    pub clear : m.restarted start
    pub taken : m.taken start r t

  -- the state and the answer, by the outcome
  abbrev pub Kept : S → Reading → S → Outcome → Type 0
  Kept s r t (refused _) = t ≡ s
  Kept s r t (longer _ _ _) = m.taken s r t
  Kept s r t (begun _) = Began r t
  Kept s r t (cut _ _ _ _) = Began r t
  Kept s r t (ended _ _ _) = ⊥
  Kept s r t idle = ⊥

  -- the number of segments, counting the open one
  abbrev pub count_by : View → Outcome → Result ℕ Refusal
  count_by v (refused f) = Err f
  count_by v (longer _ _ _) = Ok (v.written + 1)
  count_by v (begun _) = Ok (v.written + 1)
  count_by v (cut _ _ _ _) = Ok (v.written + 2)
  count_by v (ended _ _ _) = Ok (v.written + 1)
  count_by v idle = Ok v.written

  pub record By (v : View) (s : S) (store : List ℕ) (r : Reading) (v' : View) (s' : S) (store' : List ℕ) (a : Result ℕ Refusal) (o : Outcome) : Type 0 where
    pub answer : a ≡ count_by v o
    pub tape : v' ≡ view_by v o
    pub words : store' ≡ store_by v (m.words s) store o
    pub state : Kept s r s' o

  -- where nothing is refused before: the flag says whether the reading fits the open run's state
  pub record Seen (v : View) (s : S) (store : List ℕ) (r : Reading) (v' : View) (s' : S) (store' : List ℕ) (a : Result ℕ Refusal) : Type 0 where
    pub flag : Bool
    pub decides : Decides flag (Fits m s r)
    pub by : By v s store r v' s' store' a (outcome_of v (event_of flag r.tick))

  abbrev pub RecordedBy : Option Refusal → View → S → List ℕ → Reading → View → S → List ℕ → Result ℕ Refusal → Type 0
  RecordedBy (Some f) v s store r v' s' store' a = By v s store r v' s' store' a (refused f)
  RecordedBy None v s store r v' s' store' a = Seen v s store r v' s' store' a
