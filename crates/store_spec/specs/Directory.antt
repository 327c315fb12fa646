-- The files of a directory, and what operations do to them.
use Rattle.std.specs.Prelude.{Bool, true, false, List, [], ◌∷◌, ℕ, Option, None, Some, option_map, bytes_eq, if◌then◌else◌}
use Rattle.store_spec.specs.declared.operation.Operation.{Operation}
use Rattle.store_spec.specs.declared.operation.Operation.TheVariants as op

-- what a reader sees: the bytes of each file, by name
abbrev pub Directory : Type 0
Directory = List ℕ → Option (List ℕ)

-- a file: its bytes, and whether they were synced since they were written
pub record File : Type 0 where
  pub bytes : List ℕ
  pub synced : Bool

-- the files, by name
abbrev pub Files : Type 0
Files = List ℕ → Option File

-- this is under one name, and the rest is as it was
abbrev pub put : {A : Type 0} → List ℕ → A → (List ℕ → A) → List ℕ → A
put name this rest n = if bytes_eq n name then this else rest n

-- the bytes of a file were put on the disk
abbrev pub as_synced : File → File
as_synced f = record f { synced = true }

-- what one operation does; one that renames a name without a file leaves none under either name
abbrev pub operated : Operation → Files → Files
operated (op.Write name content) files = put name (Some (record { bytes = content; synced = false })) files
operated (op.Sync name) files = put name (option_map as_synced (files name)) files
operated (op.Rename from to) files = put to (files from) (put from None files)
operated (op.Remove name) files = put name None files
operated op.SyncDirectory files = files

-- what operations do, the first of them first
abbrev pub files_from : Files → List Operation → Files
files_from files [] = files
files_from files (o ∷ os) = files_from (operated o files) os

-- the files after these operations on an empty directory
unfoldable pub files_after : List Operation → Files
files_after os = files_from (λ n. None) os

-- what a read gives after these operations
abbrev pub directory : List Operation → Directory
directory os n = option_map (λ f. f.bytes) (files_after os n)
