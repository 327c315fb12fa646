-- One file is taken in.
use Rattle.std.proofs.Common.{◌≡◌, List, ℕ, Result, Ok, Err, OnOk}
use Rattle.store_spec.specs.declared.change.Change.TheVariants as change
use Rattle.store_spec.specs.declared.entry.Entry.{Entry}
use Rattle.store_spec.specs.declared.kind.BookKind.{BookKind}
use Rattle.store_spec.specs.declared.version.Version.{Version}
use Rattle.store_spec.specs.Changes.{Definitions, changed}
use Rattle.store_spec.specs.DefinitionFile.{IsDefinitionFile}
use Rattle.def_keeper.specs.Calls.{AllGood}
use Rattle.def_keeper.proofs.Opens.{put_good}

-- what was taken in is good
pub good_ok : {E : Type 0} (r : Result (Unit {0}) E) (old new : Definitions) (k : BookKind) (uuid bytes : List ℕ) (v : Version) (e : Entry) → IsDefinitionFile v e bytes
    → OnOk r ((l : BookKind) (u : List ℕ) → new l u ≡ changed (change.Put k uuid e) old l u) → OnOk r (AllGood old → AllGood new)
good_ok (Ok done) old new k uuid bytes v e file map = put_good old new k uuid v e file.entry map
good_ok (Err f) old new k uuid bytes v e file map = tt
