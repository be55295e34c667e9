-- When a place is missing for one more reading.
use Rattle.std.proofs.Common.{◌≡◌, ℕ, ◌<◌, ◌≤◌, ◌↔◌, List, [], ◌∷◌, length, arith}
use Rattle.family.specs.Readings.{Reading, ◌▹◌}
use Rattle.cuttings.specs.Cutting.{Event, read, mark, Parted, Permitted, TapeRuns, first, after_mark, joins, begins, BestCut}
use Rattle.cuttings.proofs.Fewest.{length_push, tape_permitted, tape_fewest, tape_needs}
use Rattle.cuttings.proofs.Batches.{batch_reach}

module _ (fits : List Reading → Type 0) (parts : Parted fits) where
  pub best_cut : BestCut fits
  best_cut = record {
    parts = parts;
    permitted = λ log runs g. tape_permitted fits g;
    fewest = λ log runs g. tape_fewest fits parts g;
    reach = λ log runs g. batch_reach fits parts g;
    places = λ log runs g. tape_needs fits parts g;
  }

  -- a running tape: every cutting wants more than the places exactly when they are used up and the reading does not fit
  pub place_running : (log : List Event) (q r : Reading) (done : List (List Reading)) (run : List Reading) (places : ℕ) → TapeRuns fits (log ▹ read q) (done ▹ run) → fits (r ∷ []) →
      Dec (fits (run ▹ r)) → length (done ▹ run) ≤ places →
      ((cut : List (List Reading)) → Permitted fits (log ▹ read q ▹ read r) cut → places < length cut) ↔ ((¬ fits (run ▹ r)) × (length (done ▹ run) ≡ places))
  place_running log q r done run places g s (yes f) room =
      let fit = tape_needs fits parts (joins log q r done run g f) places in (
        λ all. let h = fit.0 all in absurd (omega (arith, length_push done run, length_push done (run ▹ r))),
        λ h. absurd (h.0 f),
      )
  place_running log q r done run places g s (no n) room =
      let fit = tape_needs fits parts (begins log q r done run g n s) places in (
        λ all. let h = fit.0 all in (n, omega (arith, length_push (done ▹ run) (r ∷ []))),
        λ h. fit.1 (omega (arith, length_push (done ▹ run) (r ∷ []))),
      )

  -- a waiting tape
  pub place_waiting : (log : List Event) (r : Reading) (runs : List (List Reading)) (places : ℕ) → TapeRuns fits (log ▹ mark) runs → fits (r ∷ []) → length runs ≤ places →
      ((cut : List (List Reading)) → Permitted fits (log ▹ mark ▹ read r) cut → places < length cut) ↔ (length runs ≡ places)
  place_waiting log r runs places g s room =
      let fit = tape_needs fits parts (after_mark log runs r g s) places in (
        λ all. let h = fit.0 all in omega (arith, length_push runs (r ∷ [])),
        λ e. fit.1 (omega (arith, length_push runs (r ∷ []))),
      )

  -- a fresh tape
  pub place_fresh : (r : Reading) (places : ℕ) → fits (r ∷ []) →
      ((cut : List (List Reading)) → Permitted fits (read r ∷ []) cut → places < length cut) ↔ (places ≡ 0)
  place_fresh r places s =
      let fit = tape_needs fits parts (first r s) places in
      (λ all. let h = fit.0 all in omega arith, λ e. fit.1 (omega arith))
