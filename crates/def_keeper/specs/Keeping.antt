-- What holds of a store between two calls: what a crash leaves is among the first of the tried changes.
use Rattle.std.specs.Prelude.{◌≡◌, ◌≤◌, false, List, ℕ, Option, None, Some, length, take, drop}
use Rattle.std.specs.List.{list_any}
use Rattle.store_spec.specs.declared.kind.BookKind.{BookKind}
use Rattle.store_spec.specs.declared.operation.Operation.{Operation}
use Rattle.store_spec.specs.Changes.{Definitions, after}
use Rattle.store_spec.specs.Directory.{Directory, directory, files_after}
use Rattle.store_spec.specs.Disk.{MayLeave}
use Rattle.store_spec.specs.FileNames.{IsDefinitionName, IsUuid, definition_name}
use Rattle.store_spec.specs.Prefix.{LeavesPrefixes, Try, is_acknowledged}
use Rattle.store_spec.specs.Settled.{IsSettled, IsSure}
use Rattle.store_spec.specs.StandsFor.{Holds, IsNamed, StandsFor}
use Rattle.def_keeper.specs.declared.mark.DefKey.{DefKey}
use Rattle.def_keeper.specs.Marks.{changes_of}

-- the map after all of some tries
abbrev pub after_all : Definitions → List Try → Definitions
after_all base tries = after base (changes_of tries)

-- the directory stands for the map after the first so many tries, at least `reach`
pub record IsAmong (reach : ℕ) (base : Definitions) (tries : List Try) (left : Directory) : Type 0 where
  pub count : ℕ
  pub least : reach ≤ count
  pub most : count ≤ length tries
  pub stands : StandsFor left (after_all base (take count tries))

-- but for the file of this name, the directory stands for the map
pub record StandsBut (name : List ℕ) (d : Directory) (map : Definitions) : Type 0 where
  pub files : (k : BookKind) (uuid : List ℕ) → IsUuid uuid → (definition_name k uuid ≡ name → ⊥) → Holds (d (definition_name k uuid)) (map k uuid)
  pub no_other : (n : List ℕ) → IsDefinitionName n → (IsNamed n → ⊥) → d n ≡ None

-- all but the last tries, from `reach` on, are on the disk, and each crash leaves the first ones
pub record Goes (begun : ℕ) (os : List Operation) (base : Definitions) (tries : List Try) (reach : ℕ) : Type 0 where
  pub later : begun ≤ length os
  pub within : reach ≤ length tries
  pub covers : (t count : ℕ) → reach ≤ count → list_any (is_acknowledged t) (drop count tries) ≡ false
  pub sure : (n : List ℕ) → IsDefinitionName n → IsSure (files_after os n)
  pub images : (left : Directory) → MayLeave os left → IsAmong reach base tries left
  pub prefixes : LeavesPrefixes begun os base tries

-- nothing is in doubt; or just the file of one definition is
abbrev pub IsInDoubt : Option DefKey → List Operation → Definitions → Type 0
IsInDoubt None os map = IsSettled os map
IsInDoubt (Some key) os map = StandsBut (definition_name key.kind key.uuid) (directory os) map

-- what holds of a store whose map is this, between two calls
pub record IsKept (begun : ℕ) (os : List Operation) (base : Definitions) (tries : List Try) (map : Definitions) (doubt : Option DefKey) : Type 0 where
  pub reach : ℕ
  pub goes : Goes begun os base tries reach
  pub here : IsInDoubt doubt os (after_all base tries)
  pub agrees : (k : BookKind) (uuid : List ℕ) → (doubt ≡ Some (record { kind = k; uuid = uuid }) → ⊥) → map k uuid ≡ after_all base tries k uuid
