-- What holds of a store at every moment, by what its files tell and its history.
use Rattle.std.specs.Prelude.{◌≡◌, List, ℕ, Option, Some}
use Rattle.files_disk.specs.Telling.{Told}
use Rattle.store_spec.specs.declared.kind.BookKind.{BookKind}
use Rattle.store_spec.specs.declared.operation.Operation.{Operation}
use Rattle.store_spec.specs.Changes.{Definitions, after}
use Rattle.store_spec.specs.Prefix.{LeavesPrefixes}
use Rattle.store_spec.specs.Settled.{IsSettled}
use Rattle.def_keeper.specs.declared.mark.DefKey.{DefKey}
use Rattle.def_keeper.specs.Keeping.{IsKept}
use Rattle.def_map.specs.Map.{found}
use Rattle.def_keeper.specs.Marks.{StoreHistory, acknowledged_in, tries_in}

-- the promise: each crash since the chapter began leaves the map after the first of the tried changes, with all that
-- were acknowledged by then
abbrev pub KeepsAll : Told → StoreHistory → Type 0
KeepsAll told h = (os : List Operation) × (told ≡ Some os) × LeavesPrefixes h.base.begun os (found h.base.map) (tries_in h.marks)

-- what is known between two calls, of a store that tells its operations
abbrev pub IsKeptAt : Told → StoreHistory → Definitions → Option DefKey → Type 0
IsKeptAt told h map doubt = (os : List Operation) × (told ≡ Some os) × IsKept h.base.begun os (found h.base.map) (tries_in h.marks) map doubt

-- the map is that of the acknowledged changes, on every store
abbrev pub IsMapOf : StoreHistory → Definitions → Type 0
IsMapOf h map = (k : BookKind) (uuid : List ℕ) → map k uuid ≡ after (found h.base.map) (acknowledged_in h.marks) k uuid

-- the store tells its operations, and stands for this map, with nothing in doubt
abbrev pub IsSettledAt : Told → Definitions → Type 0
IsSettledAt told map = (os : List Operation) × (told ≡ Some os) × IsSettled os map
