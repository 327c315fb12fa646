-- The bounds that the words of a command keep.
use Rattle.std.specs.Prelude.{◌≤◌, ◌<◌, ◌^◌, ℕ, List, length}
use Rattle.command_spec.specs.declared.command.Command.{Command}
use Rattle.command_spec.specs.declared.command.Command.TheVariants as command
use Rattle.command_spec.specs.declared.limits.TheConstants.{MOST_DIGITS, MOST_WORD_BYTES}

-- a word is never longer
abbrev pub IsShort : List ℕ → Type 0
IsShort word = length word ≤ MOST_WORD_BYTES

-- all that is sent of a command is that short, and its number has so many digits
abbrev pub IsWithin : Command → Type 0
IsWithin (command.Plain verb) = Unit {0}
IsWithin (command.File verb path) = Unit {0}
IsWithin (command.Restore image) = IsShort image
IsWithin (command.Domain verb name) = IsShort name
IsWithin (command.Number verb name n) = IsShort name × (n < 10 ^ MOST_DIGITS)
IsWithin (command.SetMem name memory) = IsShort name
IsWithin (command.DomainFile verb name path) = IsShort name
IsWithin (command.Image verb name image) = IsShort name × IsShort image
IsWithin (command.Snapshot verb name s) = IsShort name × IsShort s
IsWithin (command.Network verb name) = IsShort name
IsWithin (command.Pool verb name) = IsShort name
IsWithin (command.VolCreate pool path) = IsShort pool
IsWithin (command.Volume verb pool v) = IsShort pool × IsShort v
IsWithin (command.Events count listens) = Unit {0}
