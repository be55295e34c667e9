-- Numbers of a phase of an open tape.
use Rattle.std.specs.Prelude.{ℕ}
use Rattle.recorder.specs.declared.tape.Phase.{Phase}
use Rattle.recorder.specs.declared.tape.Phase.TheVariants.{Fresh, Waiting, Running}

-- how many runs are open
abbrev pub running : Phase → ℕ
running Fresh = 0
running (Waiting _) = 0
running (Running _ _ _) = 1

-- the first tick of the open run, or 0
abbrev pub open_first : Phase → ℕ
open_first Fresh = 0
open_first (Waiting _) = 0
open_first (Running f _ _) = f

-- the last accepted tick, or 0
abbrev pub open_last : Phase → ℕ
open_last Fresh = 0
open_last (Waiting l) = l
open_last (Running _ l _) = l
