-- What parts a log of accepted readings and marks into runs: the permitted cuttings, and the tape's own.
-- All lists are oldest first.
use Rattle.std.specs.Prelude.{◌≡◌, ℕ, ◌<◌, ◌≤◌, ◌⊎◌, ◌↔◌, List, [], ◌∷◌, ◌++◌, map, length, take}
use Rattle.std.specs.List.{AllByRecursion}
use Rattle.family.specs.Readings.{Reading, ◌▹◌}

-- runs laid end to end
abbrev pub joined : {A : Type 0} → List (List A) → List A
joined [] = []
joined (run ∷ runs) = run ++ joined runs

-- an accepted call: it recorded a reading, or it marked
pub data Event : Type 0 where
  read : Reading → Event
  mark : Event

abbrev pub readings : List Event → List Reading
readings [] = []
readings (read r ∷ log) = r ∷ readings log
readings (mark ∷ log) = readings log

-- how many readings the first k runs hold
abbrev pub held : ℕ → List (List Reading) → ℕ
held k runs = length (joined (take k runs))

-- a batch of the log: the readings between two marks, or between a mark and an end of the log
pub record Batch (log before : List Event) (batch : List Reading) (after : List Event) : Type 0 where
  pub placed : log ≡ before ++ (map read batch ++ after)
  pub begins_fresh : (before ≡ []) ⊎ ((older : List Event) × (before ≡ older ▹ mark))
  pub ends_fresh : (after ≡ []) ⊎ ((later : List Event) × (after ≡ mark ∷ later))

-- one choice serves all of the run
abbrev pub Served : {choice : Type 0} → (choice → Reading → Type 0) → List Reading → Type 0
Served {choice} serves run = (c : choice) × AllByRecursion (serves c) run

-- each part of a run that fits fits
abbrev pub Parted : (List Reading → Type 0) → Type 0
Parted fits = (a b c : List Reading) → fits (a ++ b ++ c) → fits b

module _ (fits : List Reading → Type 0) where
  -- a parting of all readings of the log, in their order, into runs of one or more, each served by one choice, and at
  -- each mark some of the runs hold just what came before it, and the others what came after
  pub record Permitted (log : List Event) (runs : List (List Reading)) : Type 0 where
    pub whole : joined runs ≡ readings log
    pub some : AllByRecursion (λ run. 0 < length run) runs
    pub fit : AllByRecursion fits runs
    pub apart : (before after : List Event) → log ≡ before ++ (mark ∷ after) →
        (early : List (List Reading)) × (late : List (List Reading)) × (runs ≡ early ++ late) × (joined early ≡ readings before) × (joined late ≡ readings after)

  -- the runs of a tape that lets each reading join the open run where one choice serves both, and else begins a run with it
  pub data TapeRuns : List Event → List (List Reading) → Type 0 where
    opened : TapeRuns [] []
    marked : (log : List Event) (runs : List (List Reading)) → TapeRuns log runs → TapeRuns (log ▹ mark) runs
    first : (r : Reading) → fits (r ∷ []) → TapeRuns (read r ∷ []) ((r ∷ []) ∷ [])
    after_mark : (log : List Event) (runs : List (List Reading)) (r : Reading) → TapeRuns (log ▹ mark) runs → fits (r ∷ []) →
        TapeRuns (log ▹ mark ▹ read r) (runs ▹ (r ∷ []))
    joins : (log : List Event) (q r : Reading) (done : List (List Reading)) (open_run : List Reading) →
        TapeRuns (log ▹ read q) (done ▹ open_run) → fits (open_run ▹ r) →
        TapeRuns (log ▹ read q ▹ read r) (done ▹ (open_run ▹ r))
    begins : (log : List Event) (q r : Reading) (done : List (List Reading)) (open_run : List Reading) →
        TapeRuns (log ▹ read q) (done ▹ open_run) → ¬ fits (open_run ▹ r) → fits (r ∷ []) →
        TapeRuns (log ▹ read q ▹ read r) (done ▹ open_run ▹ (r ∷ []))

  -- what holds of every tape's runs
  pub record BestCut : Type 0 where
    pub parts : Parted fits
    pub permitted : (log : List Event) (runs : List (List Reading)) → TapeRuns log runs → Permitted log runs
    pub fewest : (log : List Event) (runs : List (List Reading)) → TapeRuns log runs → (cut : List (List Reading)) → Permitted log cut → length runs ≤ length cut
    -- the runs of a batch, of which the first k hold as many readings as those of any other cutting of the batch
    pub reach : (log : List Event) (runs : List (List Reading)) → TapeRuns log runs → (before : List Event) (batch : List Reading) (after : List Event) → Batch log before batch after →
        (early : List (List Reading)) × (mine : List (List Reading)) × (late : List (List Reading)) × (runs ≡ early ++ (mine ++ late)) × (joined early ≡ readings before) × (joined mine ≡ batch) ×
        ((cut : List (List Reading)) → Permitted (map read batch) cut → (k : ℕ) → held k cut ≤ held k mine)
    -- too few places for the tape's runs are too few for every permitted cutting
    pub places : (log : List Event) (runs : List (List Reading)) → TapeRuns log runs → (n : ℕ) → ((cut : List (List Reading)) → Permitted log cut → n < length cut) ↔ (n < length runs)
