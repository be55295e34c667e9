-- No permitted cutting of a log has fewer runs than the tape's own, and none is farther after its first k runs.
use Rattle.std.proofs.Common.{◌≡◌, ℕ, ◌+◌, ◌<◌, ◌≤◌, ◌↔◌, List, [], ◌∷◌, ◌++◌, length, sym, refl, ap, ◌∙◌, subst, append_assoc, arith, length-append}
use native.Mathlib.Decide.{dec_lt}
use Rattle.std.proofs.lemmas.List.{append-nil}
use Rattle.family.specs.Readings.{Reading, ◌▹◌}
use Rattle.cuttings.specs.Cutting.{Event, read, mark, Parted, Permitted, TapeRuns, opened, marked, first, after_mark, joins, begins}
use Rattle.cuttings.proofs.Permits.{permit_none, permit_mark, permit_alone, permit_joined}
use Rattle.cuttings.proofs.Backs.{Step, alone, joined_to, mark_back, read_back, fresh_back}

abbrev last_run : List (List Reading) → List Reading
last_run [] = []
last_run (x ∷ []) = x
last_run (x ∷ y ∷ xs) = last_run (y ∷ xs)

last_push : (xs : List (List Reading)) (x : List Reading) → last_run (xs ▹ x) ≡ x
last_push [] x = refl
last_push (y ∷ []) x = refl
last_push (y ∷ z ∷ xs) x = last_push (z ∷ xs) x

pub length_push : {A : Type 0} (xs : List A) (x : A) → length (xs ▹ x) ≡ length xs + 1
length_push xs x = length-append xs (x ∷ [])

-- fewer runs, or as many, and the last run begins no sooner
data Ahead (runs cut : List (List Reading)) : Type 0 where
  fewer : length runs < length cut → Ahead runs cut
  level : length runs ≡ length cut → (pre : List Reading) → last_run cut ≡ pre ++ last_run runs → Ahead runs cut

no_more : {runs cut : List (List Reading)} → Ahead runs cut → length runs ≤ length cut
no_more (fewer h) = omega arith
no_more (level e pre l) = omega arith

-- both begin a run, or the other's last run is longer
begun : (runs cut : List (List Reading)) (run : List Reading) (r : Reading) → length runs ≤ length cut → Ahead (runs ▹ (r ∷ [])) (cut ▹ (run ▹ r))
begun runs cut run r h = go (dec_lt (length runs) (length cut))
  where
    go : Dec (length runs < length cut) → Ahead (runs ▹ (r ∷ [])) (cut ▹ (run ▹ r))
    go (yes l) = fewer (omega (arith, length_push runs (r ∷ []), length_push cut (run ▹ r)))
    go (no n) = level (omega (arith, length_push runs (r ∷ []), length_push cut (run ▹ r))) run
        (last_push cut (run ▹ r) ∙ ap (λ (x : List Reading). run ++ x) (sym (last_push runs (r ∷ []))))

module _ (fits : List Reading → Type 0) where
  -- the tape's runs are a permitted cutting
  pub tape_permitted : {log : List Event} {runs : List (List Reading)} → TapeRuns fits log runs → Permitted fits log runs
  tape_permitted opened = permit_none fits
  tape_permitted (marked log runs g) = permit_mark fits log runs (tape_permitted g)
  tape_permitted (first r s) = permit_alone fits [] r [] (permit_none fits) s
  tape_permitted (after_mark log runs r g s) = permit_alone fits (log ▹ mark) r runs (tape_permitted g) s
  tape_permitted (joins log q r done run g s) = permit_joined fits log q r done run (tape_permitted g) s
  tape_permitted (begins log q r done run g _ s) = permit_alone fits (log ▹ read q) r (done ▹ run) (tape_permitted g) s

module _ (fits : List Reading → Type 0) (parts : Parted fits) where
  ahead_none : (cut : List (List Reading)) → Ahead [] cut
  ahead_none [] = level refl [] refl
  ahead_none (x ∷ cut) = fewer (omega arith)

  ahead_first : (r : Reading) {cut : List (List Reading)} → Step fits [] r cut → Ahead ((r ∷ []) ∷ []) cut
  ahead_first r (alone cut q) = begun [] cut [] r (omega arith)
  ahead_first r (joined_to cut run q s) = begun [] cut run r (omega arith)

  module _ (log : List Event) (r : Reading) (done : List (List Reading)) (run : List Reading) (before : (cut : List (List Reading)) → Permitted fits log cut → Ahead (done ▹ run) cut) where
    grown : (cut : List (List Reading)) (other : List Reading) → Ahead (done ▹ run) (cut ▹ other) → Ahead (done ▹ (run ▹ r)) (cut ▹ (other ▹ r))
    grown cut other (fewer h) = fewer (omega (arith, length_push done run, length_push cut other, length_push done (run ▹ r), length_push cut (other ▹ r)))
    grown cut other (level e pre l) =
        let o : other ≡ pre ++ run = sym (last_push cut other) ∙ l ∙ ap (λ (x : List Reading). pre ++ x) (last_push done run) in
        level (omega (arith, length_push done run, length_push cut other, length_push done (run ▹ r), length_push cut (other ▹ r))) pre
        (last_push cut (other ▹ r) ∙ ap (λ (x : List Reading). x ▹ r) o ∙ append_assoc pre run (r ∷ []) ∙ ap (λ (x : List Reading). pre ++ x) (sym (last_push done (run ▹ r))))

    ahead_joins : {cut : List (List Reading)} → Step fits log r cut → Ahead (done ▹ (run ▹ r)) cut
    ahead_joins (alone cut q) = let h = no_more (before cut q) in fewer (omega (arith, length_push done run, length_push cut (r ∷ []), length_push done (run ▹ r)))
    ahead_joins (joined_to cut other q s) = grown cut other (before (cut ▹ other) q)

    unfit : (cut : List (List Reading)) (other : List Reading) → ¬ fits (run ▹ r) → fits (other ▹ r) → Ahead (done ▹ run) (cut ▹ other) → Ahead (done ▹ run ▹ (r ∷ [])) (cut ▹ (other ▹ r))
    unfit cut other n s (fewer h) = begun (done ▹ run) cut other r (omega (arith, length_push cut other))
    unfit cut other n s (level e pre l) =
        let o : other ≡ pre ++ run = sym (last_push cut other) ∙ l ∙ ap (λ (x : List Reading). pre ++ x) (last_push done run) in
        let w : other ▹ r ≡ pre ++ (run ▹ r) ++ [] = ap (λ (x : List Reading). x ▹ r) o ∙ append_assoc pre run (r ∷ []) ∙ sym (append-nil (pre ++ (run ▹ r))) in
        absurd (n (parts pre (run ▹ r) [] (subst (fits) w s)))

    ahead_begins : {cut : List (List Reading)} → ¬ fits (run ▹ r) → Step fits log r cut → Ahead (done ▹ run ▹ (r ∷ [])) cut
    ahead_begins n (alone cut q) = begun (done ▹ run) cut [] r (no_more (before cut q))
    ahead_begins n (joined_to cut other q s) = unfit cut other n s (before (cut ▹ other) q)

  ahead : {log : List Event} {runs : List (List Reading)} → TapeRuns fits log runs → (cut : List (List Reading)) → Permitted fits log cut → Ahead runs cut
  ahead opened cut p = ahead_none cut
  ahead (marked log runs g) cut p = ahead g cut (mark_back fits log cut p)
  ahead (first r s) cut p = ahead_first r (read_back fits parts [] r cut p)
  ahead (after_mark log runs r g s) cut p =
      let (done, e, q) = fresh_back fits parts log r cut p in
      subst (Ahead (runs ▹ (r ∷ []))) (sym e) (begun runs done [] r (no_more (ahead g done q)))
  ahead (joins log q r done run g s) cut p = ahead_joins (log ▹ read q) r done run (ahead g) (read_back fits parts (log ▹ read q) r cut p)
  ahead (begins log q r done run g n s) cut p = ahead_begins (log ▹ read q) r done run (ahead g) n (read_back fits parts (log ▹ read q) r cut p)

  -- the fewest
  pub tape_fewest : {log : List Event} {runs : List (List Reading)} → TapeRuns fits log runs → (cut : List (List Reading)) → Permitted fits log cut → length runs ≤ length cut
  tape_fewest g cut p = no_more (ahead g cut p)

  -- a place is missing for the tape's runs exactly when it is for those of every permitted cutting
  pub tape_needs : {log : List Event} {runs : List (List Reading)} → TapeRuns fits log runs → (places : ℕ) →
      ((cut : List (List Reading)) → Permitted fits log cut → places < length cut) ↔ (places < length runs)
  tape_needs {log} {runs} g places = (λ all. all runs (tape_permitted fits g), λ h cut p. let l = tape_fewest g cut p in omega arith)
