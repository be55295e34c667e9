-- Readings, and the ticks of a run of them. All lists are oldest first.
use Rattle.std.specs.Prelude.{ℕ, ◌<◌, List, [], ◌∷◌, ◌++◌, Some, None, Option}

-- a reading: its tick and its row of words
pub record Reading : Type 0 where
  pub tick : ℕ
  pub row : List ℕ

abbrev pub reading : ℕ → List ℕ → Reading
reading t ws = record { tick = t; row = ws }

-- a list with one more at its end
infixl 66 ◌▹◌
abbrev pub ◌▹◌ : {A : Type 0} → List A → A → List A
xs ▹ x = xs ++ (x ∷ [])

-- the tick of a run's last reading, if it has one
abbrev pub last_tick : List Reading → Option ℕ
last_tick [] = None
last_tick (r ∷ []) = Some r.tick
last_tick (r ∷ (q ∷ rs)) = last_tick (q ∷ rs)

-- above the last tick, if there is one
abbrev pub Above : Option ℕ → ℕ → Type 0
Above None t = Unit {0}
Above (Some l) t = l < t
