-- The texts that name the families.
use Rattle.std.specs.Prelude.{◌≡◌, ◌≢◌, ℕ, List, Result, MatchResult, codes}
use Rattle.commands.specs.declared.command.FamilyName.{FamilyName}
use Rattle.commands.specs.declared.command.FamilyName.TheVariants as families
use Rattle.commands.specs.declared.error.Unread.{Unread}
use Rattle.commands.specs.declared.error.Unread.TheVariants as unread

abbrev pub name_of : FamilyName → List ℕ
name_of families.Level = codes "level"
name_of families.Grades = codes "grades"
name_of families.Coarse = codes "coarse"

-- a name gives its family, and a text that is no name is refused
abbrev pub NamesFamily : List ℕ → Result FamilyName Unread → Type 0
NamesFamily text r = MatchResult r (λ f. text ≡ name_of f) (λ e. (e ≡ unread.Family) × ((f : FamilyName) → text ≢ name_of f))
