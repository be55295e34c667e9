-- The first and the last tick taken; 0, where there is none.
use Rattle.std.specs.Prelude.{ℕ, ◌+◌, ◌≤◌, Option, Some, None}
use Rattle.std.proofs.Common.{arith}
use Rattle.line.specs.declared.taken.Taken.{Taken}

abbrev pub first_of : Option Taken → ℕ
first_of None = 0
first_of (Some t) = t.first

abbrev pub last_of : Option Taken → ℕ
last_of None = 0
last_of (Some t) = t.last

pub window : (o : Option Taken) → (first_of o ≤ last_of o) × (last_of o ≤ first_of o + 255)
window None = (omega arith, omega arith)
window (Some t) = (t.order, t.window)
