-- The first k runs of the tape hold as many readings as those of any permitted cutting.
use Rattle.std.proofs.Common.{◌≡◌, ℕ, ◌<◌, ◌≤◌, List, [], ◌∷◌, ◌++◌, length, take, drop, sym, ap, ◌∙◌, arith, length-append, take-append-drop, take_all}
use native.Mathlib.Decide.{dec_lt}
use lib.Seq.{take-append-le}
use Rattle.family.specs.Readings.{Reading, ◌▹◌}
use Rattle.cuttings.specs.Cutting.{joined, held, Event, read, mark, Parted, Permitted, TapeRuns, opened, marked, first, after_mark, joins, begins}
use Rattle.cuttings.proofs.Ends.{joined_append}
use Rattle.cuttings.proofs.Backs.{Step, alone, joined_to, mark_back, read_back}
use Rattle.cuttings.proofs.Fewest.{length_push, tape_permitted, tape_fewest}

held_front : (k : ℕ) (runs : List (List Reading)) (run : List Reading) → k ≤ length runs → held k (runs ▹ run) ≡ held k runs
held_front k runs run h = ap (λ (l : List (List Reading)). length (joined l)) (take-append-le k runs (run ∷ []) h)

held_all : (k : ℕ) (runs : List (List Reading)) → length runs ≤ k → held k runs ≡ length (joined runs)
held_all k runs h = ap (λ (l : List (List Reading)). length (joined l)) (take_all k runs h)

held_some : (k : ℕ) (runs : List (List Reading)) → held k runs ≤ length (joined runs)
held_some k runs =
    let e : length (joined (take k runs ++ drop k runs)) ≡ length (joined runs) = ap (λ (l : List (List Reading)). length (joined l)) (take-append-drop k runs) in
    let f : length (joined (take k runs ++ drop k runs)) ≡ length (joined (take k runs) ++ joined (drop k runs)) = ap length (joined_append (take k runs) (drop k runs)) in
    omega (arith, length-append (joined (take k runs)) (joined (drop k runs)))

held_none : (k : ℕ) (runs : List (List Reading)) → k ≡ 0 → held k runs ≡ 0
held_none k runs e = ap (λ (n : ℕ). held n runs) e

module _ (fits : List Reading → Type 0) (parts : Parted fits) where
  -- below a cutting's number of runs its last reading is not counted
  back : (log : List Event) (r : Reading) (k : ℕ) {cut : List (List Reading)} → Step fits log r cut → k < length cut → (older : List (List Reading)) × Permitted fits log older × (held k cut ≡ held k older)
  back log r k (alone cut q) h = (cut, q, held_front k cut (r ∷ []) (omega (arith, length_push cut (r ∷ []))))
  back log r k (joined_to cut run q s) h =
      let l : k ≤ length cut = omega (arith, length_push cut (run ▹ r)) in
      (cut ▹ run, q, held_front k cut (run ▹ r) l ∙ sym (held_front k cut run l))

  -- past the tape's number of runs its runs hold all
  short : {log : List Event} {runs : List (List Reading)} → TapeRuns fits log runs → (cut : List (List Reading)) → Permitted fits log cut → (k : ℕ) →
      (k < length runs → k < length cut → held k cut ≤ held k runs) → held k cut ≤ held k runs
  short {log} {runs} g cut p k less = go (dec_lt k (length runs))
    where
      go : Dec (k < length runs) → held k cut ≤ held k runs
      go (yes h) = let f = tape_fewest fits parts g cut p in less h (omega arith)
      go (no n) =
          let same : length (joined runs) ≡ length (joined cut) = ap length ((tape_permitted fits g).whole ∙ sym p.whole) in
          let a : held k runs ≡ length (joined runs) = held_all k runs (omega arith) in
          let b : held k cut ≤ length (joined cut) = held_some k cut in
          omega arith

  pub tape_reach : {log : List Event} {runs : List (List Reading)} → TapeRuns fits log runs → (cut : List (List Reading)) → Permitted fits log cut → (k : ℕ) → held k cut ≤ held k runs
  tape_reach opened cut p k = short opened cut p k (λ h l. absurd (omega arith))
  tape_reach (marked log runs g) cut p k = tape_reach g cut (mark_back fits log cut p) k
  tape_reach (first r s) cut p k = short (first r s) cut p k (λ h l. let e = held_none k cut (omega arith) in omega arith)
  tape_reach (after_mark log runs r g s) cut p k = short (after_mark log runs r g s) cut p k (λ h l.
      let (older, q, e) = back (log ▹ mark) r k (read_back fits parts (log ▹ mark) r cut p) l in
      let i : held k older ≤ held k runs = tape_reach g older q k in
      let f : held k (runs ▹ (r ∷ [])) ≡ held k runs = held_front k runs (r ∷ []) (omega (arith, length_push runs (r ∷ []))) in
      omega arith)
  tape_reach (joins log q r done run g s) cut p k = short (joins log q r done run g s) cut p k (λ h l.
      let (older, u, e) = back (log ▹ read q) r k (read_back fits parts (log ▹ read q) r cut p) l in
      let i : held k older ≤ held k (done ▹ run) = tape_reach g older u k in
      let m : k ≤ length done = omega (arith, length_push done (run ▹ r)) in
      let a : held k (done ▹ (run ▹ r)) ≡ held k done = held_front k done (run ▹ r) m in
      let b : held k (done ▹ run) ≡ held k done = held_front k done run m in
      omega arith)
  tape_reach (begins log q r done run g n s) cut p k = short (begins log q r done run g n s) cut p k (λ h l.
      let (older, u, e) = back (log ▹ read q) r k (read_back fits parts (log ▹ read q) r cut p) l in
      let i : held k older ≤ held k (done ▹ run) = tape_reach g older u k in
      let f : held k (done ▹ run ▹ (r ∷ [])) ≡ held k (done ▹ run) = held_front k (done ▹ run) (r ∷ []) (omega (arith, length_push (done ▹ run) (r ∷ []))) in
      omega arith)
