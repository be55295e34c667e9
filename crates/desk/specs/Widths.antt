-- The width of each family's picks.
use Rattle.std.specs.Prelude.{ℕ}
use Rattle.commands.specs.declared.command.FamilyName.{FamilyName}
use Rattle.commands.specs.declared.command.FamilyName.TheVariants.{Level, Grades, Coarse}

abbrev pub pick_width_of : FamilyName → ℕ
pick_width_of Level = 1
pick_width_of Grades = 1
pick_width_of Coarse = 1
