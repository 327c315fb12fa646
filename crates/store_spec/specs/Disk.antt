-- What a crash leaves of a directory. Bytes of a file are sure once the file was synced. Renames and removals take
-- effect in order, and are sure once the directory was synced: a crash loses them from one of them on, or loses none.
use Rattle.std.specs.Prelude.{◌≡◌, ◌≤◌, ◌++◌, Bool, true, false, List, [], ◌∷◌, ℕ, Option, None, Some, bytes_eq, length, take}
use Rattle.std.specs.List.{list_any}
use Rattle.store_spec.specs.declared.operation.Operation.{Operation}
use Rattle.store_spec.specs.declared.operation.Operation.TheVariants as op
use Rattle.store_spec.specs.Directory.{Directory, File, files_after}

-- a crash leaves a file as it is read once it was synced, and else any bytes, or no file
abbrev pub Leaves : Option File → Option (List ℕ) → Type 0
Leaves None left = left ≡ None
Leaves (Some f) left = f.synced ≡ true → left ≡ Some f.bytes

-- the operation changes what is under names
abbrev pub is_renaming : Operation → Bool
is_renaming (op.Rename from to) = true
is_renaming (op.Remove name) = true
is_renaming other = false

-- the operation syncs the directory
abbrev pub syncs_directory : Operation → Bool
syncs_directory op.SyncDirectory = true
syncs_directory other = false

-- the operation writes the file of this name
abbrev pub writes : List ℕ → Operation → Bool
writes name (op.Write written content) = bytes_eq name written
writes name other = false

-- a crash may lose these operations: none, or a rename or removal and all after it, with no sync of the directory
abbrev pub CanBeLost : List Operation → Type 0
CanBeLost [] = Unit {0}
CanBeLost (o ∷ os) = (is_renaming o ≡ true) × (list_any syncs_directory os ≡ false)

-- a crash right after these operations may leave this directory: it loses some, but for what they wrote
pub record MayLeave (os : List Operation) (left : Directory) : Type 0 where
  pub kept : List Operation
  pub lost : List Operation
  pub parts : kept ++ lost ≡ os
  pub loses : CanBeLost lost
  pub files : (n : List ℕ) → list_any (writes n) lost ≡ false → Leaves (files_after kept n) (left n)

-- a crash since the first so many operations, between two or in the middle of one, may have left this directory
pub record LeftSince (since : ℕ) (os : List Operation) (left : Directory) : Type 0 where
  pub at : ℕ
  pub later : since ≤ at
  pub so_far : at ≤ length os
  pub leaves : MayLeave (take at os) left
