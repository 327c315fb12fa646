-- How a change is made in the directory: a put writes a draft, syncs it, gives it its name and syncs the directory; a
-- drop removes the file and syncs the directory.
use Rattle.std.specs.Prelude.{List, [], ◌∷◌, Option, None, Some}
use Rattle.store_spec.specs.declared.change.Change.{Change}
use Rattle.store_spec.specs.declared.change.Change.TheVariants as change
use Rattle.store_spec.specs.declared.entry.Entry.{Entry}
use Rattle.store_spec.specs.declared.operation.Operation.{Operation}
use Rattle.store_spec.specs.declared.operation.Operation.TheVariants as op
use Rattle.store_spec.specs.declared.version.Version.TheVariants as version
use Rattle.store_spec.specs.Changes.{entry_of, uuid_of}
use Rattle.store_spec.specs.DefinitionFile.{IsEntryOf, definition_bytes}
use Rattle.store_spec.specs.FileNames.{IsUuid, definition_draft, definition_name}

-- the operations that make a change, in order; files are written in version 2
abbrev pub steps_of : Change → List Operation
steps_of (change.Put k uuid entry) =
    op.Write (definition_draft k uuid) (definition_bytes version.Two entry)
    ∷ op.Sync (definition_draft k uuid)
    ∷ op.Rename (definition_draft k uuid) (definition_name k uuid)
    ∷ op.SyncDirectory ∷ []
steps_of (change.Drop k uuid) = op.Remove (definition_name k uuid) ∷ op.SyncDirectory ∷ []

-- the entry that is put is one that a file may hold
abbrev pub IsPutGood : Option Entry → Type 0
IsPutGood None = Unit {0}
IsPutGood (Some e) = IsEntryOf version.Two e

-- a change that files can express
pub record IsChange (c : Change) : Type 0 where
  pub uuid : IsUuid (uuid_of c)
  pub entry : IsPutGood (entry_of c)
