-- What the program does for words that nobody waits for.
use Rattle.std.specs.Prelude.{◌≡◌, ◌⊎◌, ℕ, List, Option, Result}
use Rattle.daemon_words.specs.Commands.{Check, Word, Words}
use Rattle.daemon_words.specs.Listing.{command_list}
use Rattle.files_disk.specs.Telling.{Told}
use Rattle.virt_types.specs.Below.types_base.declared.memory.Failed.{Failed}
use Rattle.virtd.specs.Checks.{ChecksDirectory}
use Rattle.virtd.specs.Outside.{Outside}
use Rattle.virtd.specs.Printing.{Prints, printed}
use Rattle.virtd.specs.Words.{AsksFor}
use Rattle.virtd.specs.declared.connection.Connection.{Connection}

module _ {S K R F : Type 0} (held : K → Option (List ℕ)) (sink_faults : K → ℕ) where
  -- the daemon's commands are printed
  abbrev pub Lists : Outside (Connection S K R) F → Outside (Connection S K R) F → ℕ → Type 0
  Lists was is code = (result : Result (Unit {0}) Failed) × Prints held sink_faults command_list was is result × (code ≡ printed 0 result)

module _ {F S K R : Type 0} (told : F → Told) (store_faults : F → ℕ) (held : K → Option (List ℕ)) (sink_faults : K → ℕ) where
  -- what the words ask for is done: the commands are listed, or a directory is checked
  abbrev pub Does : List Word → Outside (Connection S K R) F → Outside (Connection S K R) F → ℕ → Type 0
  Does words was is code = (AsksFor words Words × Lists held sink_faults was is code)
      ⊎ ((directory : Word) × AsksFor words (Check directory) × ChecksDirectory told store_faults held sink_faults directory was is code)
