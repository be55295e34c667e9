-- Four words read as a pick.
use Rattle.std.specs.Prelude.{◌≡◌, ℕ, true, false, List, Option, MatchOption}
use Rattle.line.specs.declared.pick.Pick.{Pick}
use Rattle.line.specs.Picks.{kinds_hold, pick_in}

-- none, where a word is of another kind or out of range
abbrev pub Read : List ℕ → Option Pick → Type 0
Read ws r = MatchOption r (kinds_hold ws ≡ false) (λ p. (kinds_hold ws ≡ true) × (p ≡ pick_in ws))
