-- The command lines of virtd, by their words.
use Rattle.std.specs.Prelude.{◌≡◌, ◌==◌, Bool, true, false, not, List, [], ◌∷◌, ℕ, codes, Option, None, Some, option_map}
use Rattle.std.specs.Str.{byte}
use Rattle.daemon_words.specs.declared.command.DaemonCommand.{DaemonCommand}
use Rattle.daemon_words.specs.declared.command.DaemonCommand.TheVariants as command

-- a word, by its bytes
abbrev pub Word : Type 0
Word = List ℕ

-- what a command line asks for
pub data CommandLine : Type 0 where
  Demo : CommandLine
  Stdio : Word → CommandLine
  Check : Word → CommandLine
  Words : CommandLine

-- the words of a command line, without the program's own name
abbrev pub words_of : CommandLine → List Word
words_of Demo = codes "demo" ∷ []
words_of (Stdio directory) = codes "stdio" ∷ directory ∷ []
words_of (Check directory) = codes "check" ∷ directory ∷ []
words_of Words = codes "words" ∷ []

-- a word that may name a directory: it is not empty, and does not begin like an option
abbrev pub is_directory : Word → Bool
is_directory [] = false
is_directory (letter ∷ letters) = not (letter == byte "-")

-- the directory of a command line is named by such a word
abbrev pub IsCommandLine : CommandLine → Type 0
IsCommandLine (Stdio directory) = is_directory directory ≡ true
IsCommandLine (Check directory) = is_directory directory ≡ true
IsCommandLine asked = Unit {0}

-- what words ask for, exactly where they are a command line
abbrev pub Asks : List Word → Option CommandLine → Type 0
Asks words None = (asked : CommandLine) → IsCommandLine asked → words ≡ words_of asked → ⊥
Asks words (Some asked) = IsCommandLine asked × (words ≡ words_of asked)

-- a command as its reader gives it, with the directory's word as it lies there
abbrev pub seen : DaemonCommand → CommandLine
seen command.Demo = Demo
seen (command.Stdio directory) = Stdio directory.now
seen (command.Check directory) = Check directory.now
seen command.Words = Words

-- the same of what is read
abbrev pub seen_in : Option DaemonCommand → Option CommandLine
seen_in read = option_map seen read
