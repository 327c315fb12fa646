-- What files in memory show of themselves.
use Rattle.std.specs.Prelude.{List, [], ℕ}
use Rattle.store_spec.specs.declared.operation.Operation.{Operation}

-- the operations that took effect, and how many calls failed
pub record MemoryFiles : Type 0 where
  pub operations : List Operation
  pub faults : ℕ

-- no files, and no call has failed
abbrev pub no_files : MemoryFiles
no_files = record { operations = []; faults = 0 }
