-- What the calls keep of an open tape, so that closing it over the same store is not refused.
use Rattle.std.proofs.Common.{◌≡◌, ℕ, Bool, true, List, length, is_ok, Some, None, Ok, Err, Option, Result, sym, refl, ap, subst, eq-eqb}
use Rattle.std.proofs.lemmas.Bool.{and_from}
use Rattle.words.specs.declared.refusal.Reason.TheVariants.{OtherStore}
use Rattle.words.specs.declared.refusal.Refusal.{Refusal}
use Rattle.family.specs.Readings.{Reading}
use Rattle.family.specs.Refusing.{refuse_unless}
use Rattle.family.specs.Meaning.{Meaning}
use Rattle.recorder.specs.declared.tape.Phase.{Phase}
use Rattle.recorder.specs.declared.tape.Phase.TheVariants.{Fresh, Waiting, Running}
use Rattle.recorder.specs.declared.tape.OpenTape.{OpenTape}
use Rattle.recorder.specs.declared.tape.ClosedTape.{ClosedTape}
use Rattle.recorder.specs.Views.{View}
use Rattle.recorder.specs.Steps.{Outcome, refused, longer, begun, cut, ended, idle, opened_refusal, unless_due, closing, outcome_of, view_by, Closes}
use Rattle.recorder.specs.Recording.{RecordedBy, early_refusal, event_of}
use Rattle.recorder.specs.Histories.{World, world, Opened, Recorded, Marked, marking, closes}

-- the pick's width and the store's length as at opening
pub record Same (v v' : View) : Type 0 where
  pub wide : v'.width ≡ v.width
  pub long : v'.length ≡ v.length

outcome_keeps : (v : View) (o : Outcome) → Same v (view_by v o)
outcome_keeps v (refused _) = record { wide = refl; long = refl }
outcome_keeps v (longer _ _ _) = record { wide = refl; long = refl }
outcome_keeps v (begun _) = record { wide = refl; long = refl }
outcome_keeps v (cut _ _ _ _) = record { wide = refl; long = refl }
outcome_keeps v (ended _ _ _) = record { wide = refl; long = refl }
outcome_keeps v idle = record { wide = refl; long = refl }

keeps : (v v' : View) (o : Outcome) → v' ≡ view_by v o → Same v v'
keeps v v' o e = subst (λ (x : View). Same v x) (sym e) (outcome_keeps v o)

sure : (v : View) (q : Phase) (a : Result ClosedTape (OpenTape × Refusal)) → Closes v (closing q) a → is_ok a ≡ true
sure v Fresh (Ok _) h = refl
sure v Fresh (Err _) h = absurd h
sure v (Waiting _) (Ok _) h = refl
sure v (Waiting _) (Err _) h = absurd h
sure v (Running _ _ _) (Ok _) h = refl
sure v (Running _ _ _) (Err _) h = absurd h

-- closing that is refused hands back the tape as it was
closing_back : (v : View) (o : Outcome) (p : OpenTape × Refusal) → Closes v o (Err p) → Same v p.0
closing_back v (refused f) p h = subst (λ (x : View). Same v x) (sym h.0) (record { wide = refl; long = refl })
closing_back v (longer _ _ _) p h = absurd h
closing_back v (begun _) p h = absurd h
closing_back v (cut _ _ _ _) p h = absurd h
closing_back v (ended _ _ _) p h = absurd h
closing_back v idle p h = absurd h

pub handed_back : (v : View) (o : Outcome) (a : Result ClosedTape (OpenTape × Refusal)) (p : OpenTape × Refusal) → a ≡ Err p → Closes v o a → Same v p.0
handed_back v o a p e h = closing_back v o p (subst (λ (x : Result ClosedTape (OpenTape × Refusal)). Closes v o x) e h)

module _ {S : Type 0} (m : Meaning S) where
  pub recording_keeps : (o : Option Refusal) (v v' : View) (s s' : S) (store store' : List ℕ) (r : Reading) (a : Result ℕ Refusal) → RecordedBy m o v s store r v' s' store' a → Same v v'
  recording_keeps (Some f) v v' s s' store store' r a h = keeps v v' (refused f) h.tape
  recording_keeps None v v' s s' store store' r a h = keeps v v' (outcome_of v (event_of h.flag r.tick)) h.by.tape

  pub recorded_keeps : (w w' : World S) (r : Reading) (a : Result ℕ Refusal) → Recorded m w r a w' → Same w.tape w'.tape
  recorded_keeps w w' r a h = recording_keeps (early_refusal m w.tape (length w.store) r) w.tape w'.tape w.state w'.state w.store w'.store r a h

  -- the same over a store that is told by other words
  pub recorded_over : (v v' : View) (s s' : S) (xs ys xs' ys' : List ℕ) (r : Reading) (a : Result ℕ Refusal) → xs ≡ ys → ys' ≡ xs' → Recorded m (world v s xs) r a (world v' s' xs') → Recorded m (world v s ys) r a (world v' s' ys')
  recorded_over v v' s s' xs ys xs' ys' r a e d h =
      subst (λ (x : List ℕ). Recorded m (world v s x) r a (world v' s' ys')) e
      (subst (λ (x : List ℕ). Recorded m (world v s xs) r a (world v' s' x)) (sym d) h)

  pub marked_over : (v v' : View) (s s' : S) (xs ys xs' ys' : List ℕ) (a : Result Unit Refusal) → xs ≡ ys → ys' ≡ xs' → Marked m (world v s xs) a (world v' s' xs') → Marked m (world v s ys) a (world v' s' ys')
  marked_over v v' s s' xs ys xs' ys' a e d h =
      subst (λ (x : List ℕ). Marked m (world v s x) a (world v' s' ys')) e
      (subst (λ (x : List ℕ). Marked m (world v s xs) a (world v' s' x)) (sym d) h)

  pub opened_over : (v : View) (s : S) (xs ys xs' ys' : List ℕ) → xs ≡ ys → ys' ≡ xs' → Opened m xs (world v s xs') → Opened m ys (world v s ys')
  opened_over v s xs ys xs' ys' e d h =
      subst (λ (x : List ℕ). Opened m x (world v s ys')) e
      (subst (λ (x : List ℕ). Opened m xs (world v s x)) (sym d) h)

  pub marking_keeps : (w w' : World S) (a : Result Unit Refusal) → Marked m w a w' → Same w.tape w'.tape
  marking_keeps w w' a h = keeps w.tape w'.tape (marking m w) h.tape

  pub closing_sure : (w : World S) (a : Result ClosedTape (OpenTape × Refusal)) → w.tape.width ≡ m.pick_width → length w.store ≡ w.tape.length → Closes w.tape (closes m w) a → is_ok a ≡ true
  closing_sure w a wide long h =
      let none : opened_refusal w.tape m.pick_width (length w.store) ≡ None =
      ap (λ (x : Bool). refuse_unless x OtherStore) (and_from _ _ (eq-eqb m.pick_width w.tape.width (sym wide)) (eq-eqb (length w.store) w.tape.length long)) in
      sure w.tape w.tape.phase a
      (subst (λ (o : Option Refusal). Closes w.tape (unless_due o (closing w.tape.phase)) a) none h)
