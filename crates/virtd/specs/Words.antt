-- The command lines of a daemon.
use Rattle.std.specs.Prelude.{◌⊎◌, List, Some}
use Rattle.daemon_words.specs.Commands.{Asks, Check, CommandLine, Demo, Stdio, Word, Words}

-- the words ask for this
abbrev pub AsksFor : List Word → CommandLine → Type 0
AsksFor words asked = Asks words (Some asked)

-- a daemon is to be run
abbrev pub IsDaemon : List Word → Type 0
IsDaemon words = AsksFor words Demo ⊎ ((directory : Word) × AsksFor words (Stdio directory))

-- something is asked for that nobody waits for
abbrev pub IsOffline : List Word → Type 0
IsOffline words = AsksFor words Words ⊎ ((directory : Word) × AsksFor words (Check directory))
