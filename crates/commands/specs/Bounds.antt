-- The bounds of the numbers that a command gives.
use Rattle.std.specs.Prelude.{ℕ, ◌≤◌, Some, None, Option}
use Rattle.commands.specs.declared.command.Command.{Command}
use Rattle.commands.specs.declared.command.Command.TheVariants as commands

-- an answer row that is written to have at most 1,000,000 words
abbrev pub Narrow : Option ℕ → Type 0
Narrow (Some width) = width ≤ 1000000
Narrow None = Unit {0}

-- a store has at most 16,000,000 words, an answer row at most 1,000,000
abbrev pub Bounded : Command → Type 0
Bounded (commands.Open _ length) = length ≤ 16000000
Bounded (commands.Record _ _) = Unit {0}
Bounded commands.Mark = Unit {0}
Bounded (commands.Ask _ width) = Narrow width
Bounded commands.Close = Unit {0}
Bounded (commands.Load _ _) = Unit {0}
Bounded (commands.Value _ width) = Narrow width
Bounded (commands.ItemAt _) = Unit {0}
Bounded commands.Check = Unit {0}
Bounded (commands.Poke _ _) = Unit {0}
Bounded (commands.Resize length) = length ≤ 16000000
Bounded (commands.Lend _) = Unit {0}
Bounded commands.Store = Unit {0}
Bounded commands.Help = Unit {0}

abbrev pub Within : Option Command → Type 0
Within (Some command) = Bounded command
Within None = Unit {0}
