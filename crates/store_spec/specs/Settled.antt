-- A directory in which nothing is in doubt, and the tries of changes that were made one after another without a fault.
use Rattle.std.specs.Prelude.{◌≡◌, ◌+◌, true, List, [], ◌∷◌, ℕ, Option, None, Some, length}
use Rattle.store_spec.specs.declared.change.Change.{Change}
use Rattle.store_spec.specs.declared.operation.Operation.{Operation}
use Rattle.store_spec.specs.Changes.{Definitions}
use Rattle.store_spec.specs.Directory.{Directory, File, directory, files_after}
use Rattle.store_spec.specs.Disk.{MayLeave}
use Rattle.store_spec.specs.FileNames.{IsDefinitionName}
use Rattle.store_spec.specs.Prefix.{Try}
use Rattle.store_spec.specs.StandsFor.{StandsFor}
use Rattle.store_spec.specs.Steps.{steps_of}

-- there is no file, or it was synced since it was written
abbrev pub IsSure : Option File → Type 0
IsSure None = Unit {0}
IsSure (Some f) = f.synced ≡ true

-- the directory stands for this map, and so does whatever a crash leaves
pub record IsSettled (os : List Operation) (map : Definitions) : Type 0 where
  pub stands : StandsFor (directory os) map
  pub sure : (name : List ℕ) → IsDefinitionName name → IsSure (files_after os name)
  pub images : (left : Directory) → MayLeave os left → StandsFor left map

-- each change is acknowledged as soon as its last operation took effect
abbrev pub tries_of : ℕ → List Change → List Try
tries_of begun [] = []
tries_of begun (c ∷ cs) =
    record { change = c; acknowledged = Some (begun + length (steps_of c)) } ∷ tries_of (begun + length (steps_of c)) cs
