-- What is told of the calls, and what an open tape is guarded from.
use Rattle.std.specs.Prelude.{ℕ, Bool, true, false, Some, None, Ok, Err, Option, Result}
use Rattle.words.specs.declared.refusal.Refusal.{Refusal}
use Rattle.commands.specs.declared.command.Command.{Command}
use Rattle.commands.specs.declared.command.Command.TheVariants as commands
use Rattle.desk.specs.declared.answer.Answer.{Answer}
use Rattle.desk.specs.declared.answer.Answer.TheVariants as answers
use Rattle.desk.specs.declared.tape.Tape.{Tape}
use Rattle.desk.specs.declared.tape.Tape.TheVariants as tapes

-- of a reading: the number of segments, or the refusal
abbrev pub segments_told : Result ℕ Refusal → Answer
segments_told (Ok n) = answers.Segments n
segments_told (Err f) = answers.Refused f

abbrev pub mark_told : Result Unit Refusal → Answer
mark_told (Ok _) = answers.Marked
mark_told (Err f) = answers.Refused f

-- of a check: the number of records where nothing is refused
abbrev pub check_told : Option Refusal → ℕ → Answer
check_told None n = answers.Lawful n
check_told (Some f) n = answers.Refused f

abbrev pub is_open : Tape → Bool
is_open tapes.Nothing = false
is_open (tapes.Open _) = true
is_open (tapes.Closed _) = false

-- the commands that put another tape in place of the one that is there
abbrev pub replaces : Command → Bool
replaces (commands.Open _ _) = true
replaces (commands.Record _ _) = false
replaces commands.Mark = false
replaces (commands.Ask _ _) = false
replaces commands.Close = false
replaces (commands.Load _ _) = true
replaces (commands.Value _ _) = false
replaces (commands.ItemAt _) = false
replaces commands.Check = false
replaces (commands.Poke _ _) = false
replaces (commands.Resize _) = false
replaces (commands.Lend _) = false
replaces commands.Store = false
replaces commands.Help = false
