-- An open tape keeps its places, and closes with no more segments.
use Rattle.std.proofs.Common.{◌≡◌, ℕ, ◌+◌, ◌≤◌, List, length, Some, None, Ok, Option, Result, refl, ap, subst, ◌∙◌, arith}
use Rattle.words.specs.declared.refusal.Refusal.{Refusal}
use Rattle.family.specs.Readings.{Reading}
use Rattle.family.specs.Meaning.{Meaning}
use Rattle.recorder.specs.declared.tape.Phase.{Phase}
use Rattle.recorder.specs.declared.tape.Phase.TheVariants.{Fresh, Waiting, Running}
use Rattle.recorder.specs.declared.tape.OpenTape.{OpenTape}
use Rattle.recorder.specs.declared.tape.ClosedTape.{ClosedTape}
use Rattle.recorder.specs.Phases.{running}
use Rattle.recorder.specs.Views.{View, Sound}
use Rattle.recorder.specs.Steps.{Outcome, refused, longer, begun, cut, ended, idle, unless_due, opened_refusal, closing, outcome_of, view_by, Closes}
use Rattle.recorder.specs.Recording.{RecordedBy, early_refusal, event_of}
use Rattle.recorder.specs.Histories.{World, Recorded, closes}

outcome_keeps : (v : View) (o : Outcome) → (view_by v o).places ≡ v.places
outcome_keeps v (refused _) = refl
outcome_keeps v (longer _ _ _) = refl
outcome_keeps v (begun _) = refl
outcome_keeps v (cut _ _ _ _) = refl
outcome_keeps v (ended _ _ _) = refl
outcome_keeps v idle = refl

not_refused : (v : View) (f : Option Refusal) (o : Outcome) (k : ClosedTape) → Closes v (unless_due f o) (Ok k) → Closes v o (Ok k)
not_refused v (Some f) o k h = absurd h
not_refused v None o k h = h

counted : (v : View) (q : Phase) (k : ClosedTape) → v.written + running q ≤ v.places → Closes v (closing q) (Ok k) → k.segments ≤ v.places
counted v Fresh k room h = omega arith
counted v (Waiting _) k room h = omega arith
counted v (Running _ _ _) k room h = omega arith

module _ {S : Type 0} (m : Meaning S) where
  recording_keeps : (o : Option Refusal) (v v' : View) (s s' : S) (store store' : List ℕ) (r : Reading) (a : Result ℕ Refusal) → RecordedBy m o v s store r v' s' store' a → v'.places ≡ v.places
  recording_keeps (Some f) v v' s s' store store' r a h = ap (λ (x : View). x.places) h.tape
  recording_keeps None v v' s s' store store' r a h = ap (λ (x : View). x.places) h.by.tape ∙ outcome_keeps v (outcome_of v (event_of h.flag r.tick))

  pub recorded_places : (w w' : World S) (r : Reading) (a : Result ℕ Refusal) → Recorded m w r a w' → w'.tape.places ≡ w.tape.places
  recorded_places w w' r a h = recording_keeps (early_refusal m w.tape (length w.store) r) w.tape w'.tape w.state w'.state w.store w'.store r a h

  pub closed_within : (w : World S) (a : Result ClosedTape (OpenTape × Refusal)) (k : ClosedTape) → Sound w.tape → a ≡ Ok k → Closes w.tape (closes m w) a → k.segments ≤ w.tape.places
  closed_within w a k sound e h =
      counted w.tape w.tape.phase k sound.room
      (not_refused w.tape (opened_refusal w.tape m.pick_width (length w.store)) (closing w.tape.phase) k
      (subst (λ (x : Result ClosedTape (OpenTape × Refusal)). Closes w.tape (closes m w) x) e h))
