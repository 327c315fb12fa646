-- What the try of a change does to what is known of a store.
use Rattle.std.proofs.Common.{◌≡◌, ◌++◌, List, [], ◌∷◌, ℕ, zero, suc, Some, take, refl, sym, subst}
use Rattle.store_spec.specs.declared.change.Change.{Change}
use Rattle.store_spec.specs.declared.change.Change.TheVariants as change
use Rattle.store_spec.specs.declared.entry.Entry.{Entry}
use Rattle.store_spec.specs.declared.kind.BookKind.{BookKind}
use Rattle.store_spec.specs.declared.operation.Operation.{Operation}
use Rattle.store_spec.specs.declared.operation.Operation.TheVariants as op
use Rattle.store_spec.specs.declared.version.Version.TheVariants as version
use Rattle.store_spec.specs.Changes.{Definitions}
use Rattle.store_spec.specs.DefinitionFile.{definition_bytes}
use Rattle.store_spec.specs.Directory.{directory}
use Rattle.store_spec.specs.FileNames.{definition_draft, definition_name}
use Rattle.store_spec.specs.Prefix.{Try}
use Rattle.store_spec.specs.Settled.{IsSettled}
use Rattle.store_spec.specs.StandsFor.{StandsFor}
use Rattle.store_spec.specs.Steps.{IsChange, steps_of}
use Rattle.store_spec.proofs.Settling.{IsAside}
use Rattle.store_spec.proofs.Whole.{aside_sync, aside_write, makes_drop, makes_put, synced_draft}
use Rattle.def_keeper.specs.Keeping.{Goes, StandsBut, after_all}
use Rattle.files_disk.specs.Putting.{all_more}
use Rattle.def_keeper.proofs.Goings.{but_aside, but_changed, but_of, goes_aside, goes_made, goes_tried, name_of, settled_now, sync_aside}
use Rattle.def_keeper.proofs.Tries.{after_try, tried}

-- some operations after others
abbrev pub on : List Operation → List Operation → List Operation
on os [] = os
on os (o ∷ rest) = on (os ++ o ∷ []) rest

pub told_on : (os steps : List Operation) → all_more (Some os) steps ≡ Some (on os steps)
told_on os [] = refl
told_on os (o ∷ rest) = told_on (os ++ o ∷ []) rest

-- a change is tried: just its file is in doubt
pub record Trying (begun : ℕ) (os : List Operation) (base : Definitions) (tries : List Try) (reach : ℕ) (name : List ℕ) : Type 0 where
  pub goes : Goes begun os base tries reach
  pub but : StandsBut name (directory os) (after_all base tries)

aside_more : (begun : ℕ) (os : List Operation) (o : Operation) (base : Definitions) (tries : List Try) (reach : ℕ) (name : List ℕ) → IsAside o → Trying begun os base tries reach name → Trying begun (os ++ o ∷ []) base tries reach name
aside_more begun os o base tries reach name aside t = record { goes = goes_aside begun os o base tries reach aside t.goes; but = but_aside os o name (after_all base tries) aside t.but }

-- the try is one more of the tries
pub add_try : (begun : ℕ) (os : List Operation) (base : Definitions) (tries : List Try) (reach : ℕ) (c : Change) → IsChange c → Trying begun os base tries reach (name_of c) → Trying begun os base (tries ++ tried c ∷ []) reach (name_of c)
add_try begun os base tries reach c good t = record {
  goes = goes_tried begun os base tries reach c t.goes;
  but = subst (λ (m : Definitions). StandsBut (name_of c) (directory os) m) (sym (after_try base tries (tried c))) (but_changed (directory os) (after_all base tries) c good.uuid t.but);
}

-- after all operations of a change it is on the disk
pub record OnDisk (begun : ℕ) (os : List Operation) (base : Definitions) (tries : List Try) (reach : ℕ) (c : Change) : Type 0 where
  pub goes : Goes begun os base (tries ++ tried c ∷ []) reach
  pub settled : IsSettled os (after_all base (tries ++ tried c ∷ []))

-- after its file was changed
record Made (begun : ℕ) (os : List Operation) (base : Definitions) (tries : List Try) (reach : ℕ) (c : Change) : Type 0 where
  pub goes : Goes begun os base (tries ++ tried c ∷ []) reach
  pub stands : StandsFor (directory os) (after_all base (tries ++ tried c ∷ []))

made_trying : (begun : ℕ) (os : List Operation) (base : Definitions) (tries : List Try) (reach : ℕ) (c : Change) → Made begun os base tries reach c → Trying begun os base (tries ++ tried c ∷ []) reach (name_of c)
made_trying begun os base tries reach c m = record { goes = m.goes; but = but_of (name_of c) (directory os) (after_all base (tries ++ tried c ∷ [])) m.stands }

synced : (begun : ℕ) (os : List Operation) (base : Definitions) (tries : List Try) (reach : ℕ) (c : Change) → Made begun os base tries reach c → OnDisk begun (os ++ op.SyncDirectory ∷ []) base tries reach c
synced begun os base tries reach c m = record {
  goes = goes_aside begun os op.SyncDirectory base (tries ++ tried c ∷ []) reach sync_aside m.goes;
  settled = settled_now begun os base (tries ++ tried c ∷ []) reach m.goes m.stands;
}

disk_trying : (begun : ℕ) (os : List Operation) (base : Definitions) (tries : List Try) (reach : ℕ) (c : Change) → OnDisk begun os base tries reach c → Trying begun os base (tries ++ tried c ∷ []) reach (name_of c)
disk_trying begun os base tries reach c d = record { goes = d.goes; but = but_of (name_of c) (directory os) (after_all base (tries ++ tried c ∷ [])) d.settled.stands }

abbrev draft_of : BookKind → List ℕ → Entry → Operation
draft_of k uuid e = op.Write (definition_draft k uuid) (definition_bytes version.Two e)

abbrev two_of : List Operation → BookKind → List ℕ → Entry → List Operation
two_of os k uuid e = (os ++ draft_of k uuid e ∷ []) ++ op.Sync (definition_draft k uuid) ∷ []

abbrev three_of : List Operation → BookKind → List ℕ → Entry → List Operation
three_of os k uuid e = two_of os k uuid e ++ op.Rename (definition_draft k uuid) (definition_name k uuid) ∷ []

-- before its try is counted, the draft is written and synced
drafted : (begun : ℕ) (os : List Operation) (base : Definitions) (tries : List Try) (reach : ℕ) (k : BookKind) (uuid : List ℕ) (e : Entry) (name : List ℕ) → Trying begun os base tries reach name → Trying begun (two_of os k uuid e) base tries reach name
drafted begun os base tries reach k uuid e name t =
    aside_more begun (os ++ draft_of k uuid e ∷ []) (op.Sync (definition_draft k uuid)) base tries reach name (aside_sync k uuid)
    (aside_more begun os (draft_of k uuid e) base tries reach name (aside_write k uuid (definition_bytes version.Two e)) t)

put_made : (begun : ℕ) (os : List Operation) (base : Definitions) (tries : List Try) (reach : ℕ) (k : BookKind) (uuid : List ℕ) (e : Entry) → IsChange (change.Put k uuid e) → Trying begun os base tries reach (definition_name k uuid) → Made begun (three_of os k uuid e) base tries reach (change.Put k uuid e)
put_made begun os base tries reach k uuid e good t =
    let two = two_of os k uuid e in
    let d = drafted begun os base tries reach k uuid e (definition_name k uuid) t in
    let both = goes_made begun two (op.Rename (definition_draft k uuid) (definition_name k uuid)) base tries reach (change.Put k uuid e) good.uuid
    (makes_put two k uuid e good (synced_draft os (definition_draft k uuid) (definition_bytes version.Two e))) d.but (goes_tried begun two base tries reach (change.Put k uuid e) d.goes) in
    record { goes = both.0; stands = both.1 }

drop_made : (begun : ℕ) (os : List Operation) (base : Definitions) (tries : List Try) (reach : ℕ) (k : BookKind) (uuid : List ℕ) → IsChange (change.Drop k uuid) → Trying begun os base tries reach (definition_name k uuid) → Made begun (os ++ op.Remove (definition_name k uuid) ∷ []) base tries reach (change.Drop k uuid)
drop_made begun os base tries reach k uuid good t =
    let both = goes_made begun os (op.Remove (definition_name k uuid)) base tries reach (change.Drop k uuid) good.uuid (makes_drop os k uuid) t.but (goes_tried begun os base tries reach (change.Drop k uuid) t.goes) in
    record { goes = both.0; stands = both.1 }

pub all_done : (begun : ℕ) (os : List Operation) (base : Definitions) (tries : List Try) (reach : ℕ) (c : Change) → IsChange c → Trying begun os base tries reach (name_of c) → OnDisk begun (on os (steps_of c)) base tries reach c
all_done begun os base tries reach (change.Put k uuid e) good t = synced begun (three_of os k uuid e) base tries reach (change.Put k uuid e) (put_made begun os base tries reach k uuid e good t)
all_done begun os base tries reach (change.Drop k uuid) good t = synced begun (os ++ op.Remove (definition_name k uuid) ∷ []) base tries reach (change.Drop k uuid) (drop_made begun os base tries reach k uuid good t)

-- after some operations of a change its file is in doubt
pub some_done : (begun : ℕ) (os : List Operation) (base : Definitions) (tries : List Try) (reach : ℕ) (c : Change) (n : ℕ) → IsChange c → Trying begun os base tries reach (name_of c) → Trying begun (on os (take n (steps_of c))) base (tries ++ tried c ∷ []) reach (name_of c)
some_done begun os base tries reach (change.Put k uuid e) zero good t = add_try begun os base tries reach (change.Put k uuid e) good t
some_done begun os base tries reach (change.Put k uuid e) (suc zero) good t =
    aside_more begun os (draft_of k uuid e) base (tries ++ tried (change.Put k uuid e) ∷ []) reach (definition_name k uuid) (aside_write k uuid (definition_bytes version.Two e)) (add_try begun os base tries reach (change.Put k uuid e) good t)
some_done begun os base tries reach (change.Put k uuid e) (suc (suc zero)) good t =
    drafted begun os base (tries ++ tried (change.Put k uuid e) ∷ []) reach k uuid e (definition_name k uuid) (add_try begun os base tries reach (change.Put k uuid e) good t)
some_done begun os base tries reach (change.Put k uuid e) (suc (suc (suc zero))) good t = made_trying begun (three_of os k uuid e) base tries reach (change.Put k uuid e) (put_made begun os base tries reach k uuid e good t)
some_done begun os base tries reach (change.Put k uuid e) (suc (suc (suc (suc zero)))) good t = disk_trying begun (on os (steps_of (change.Put k uuid e))) base tries reach (change.Put k uuid e) (all_done begun os base tries reach (change.Put k uuid e) good t)
some_done begun os base tries reach (change.Put k uuid e) (suc (suc (suc (suc (suc n))))) good t = disk_trying begun (on os (steps_of (change.Put k uuid e))) base tries reach (change.Put k uuid e) (all_done begun os base tries reach (change.Put k uuid e) good t)
some_done begun os base tries reach (change.Drop k uuid) zero good t = add_try begun os base tries reach (change.Drop k uuid) good t
some_done begun os base tries reach (change.Drop k uuid) (suc zero) good t = made_trying begun (os ++ op.Remove (definition_name k uuid) ∷ []) base tries reach (change.Drop k uuid) (drop_made begun os base tries reach k uuid good t)
some_done begun os base tries reach (change.Drop k uuid) (suc (suc zero)) good t = disk_trying begun (on os (steps_of (change.Drop k uuid))) base tries reach (change.Drop k uuid) (all_done begun os base tries reach (change.Drop k uuid) good t)
some_done begun os base tries reach (change.Drop k uuid) (suc (suc (suc n))) good t = disk_trying begun (on os (steps_of (change.Drop k uuid))) base tries reach (change.Drop k uuid) (all_done begun os base tries reach (change.Drop k uuid) good t)

-- the draft got any bytes
pub torn : (begun : ℕ) (os : List Operation) (base : Definitions) (tries : List Try) (reach : ℕ) (k : BookKind) (uuid bytes : List ℕ) (e : Entry) → IsChange (change.Put k uuid e) → Trying begun os base tries reach (definition_name k uuid)
    → Trying begun (os ++ op.Write (definition_draft k uuid) bytes ∷ []) base (tries ++ tried (change.Put k uuid e) ∷ []) reach (definition_name k uuid)
torn begun os base tries reach k uuid bytes e good t =
    aside_more begun os (op.Write (definition_draft k uuid) bytes) base (tries ++ tried (change.Put k uuid e) ∷ []) reach (definition_name k uuid) (aside_write k uuid bytes) (add_try begun os base tries reach (change.Put k uuid e) good t)
