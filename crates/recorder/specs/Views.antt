-- An open tape as contracts see it: its numbers, and what holds of them in every open tape.
use Rattle.std.specs.Prelude.{ℕ, ◌+◌, ◌-◌, ◌*◌, ◌<◌, ◌≤◌}
use Rattle.recorder.specs.declared.tape.Phase.{Phase}
use Rattle.recorder.specs.Phases.{running, open_first, open_last}

-- an open tape's numbers
pub record View : Type 0 where
  pub width : ℕ
  pub length : ℕ
  pub places : ℕ
  pub written : ℕ
  pub phase : Phase

-- the open run has a place, the places lie within the store, and the run's ticks are in order and in range
pub record Sound (v : View) : Type 0 where
  pub room : v.written + running v.phase ≤ v.places
  pub few : v.places ≤ 1000000
  pub within : v.places * (v.width + 2) ≤ v.length - 2
  pub narrow : 0 < v.places → v.width ≤ 12
  pub timely : open_last v.phase ≤ 268435455
  pub ordered : open_first v.phase ≤ open_last v.phase
