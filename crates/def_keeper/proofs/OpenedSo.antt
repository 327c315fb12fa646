-- An opened directory.
use Rattle.std.proofs.Common.{◌≡◌, ⊎_elim, ◌++◌, true, List, [], ◌∷◌, ℕ, suc, Option, None, Some, All, option_map, sym, ◌∙◌, ap, subst, arith, append_assoc, append-nil}
use Rattle.std.proofs.lemmas.Bool.{cases_Bool}
use Rattle.virt_types.specs.Below.types_base.declared.memory.OrNoMemory.{OrNoMemory}
use Rattle.virt_types.specs.Below.types_base.declared.memory.OrNoMemory.TheVariants as or
use Rattle.files_disk.specs.Telling.{IsListed, Lists, Told, more}
use Rattle.store_spec.specs.declared.operation.Operation.{Operation}
use Rattle.store_spec.specs.declared.operation.Operation.TheVariants as op
use Rattle.store_spec.specs.Changes.{Definitions}
use Rattle.store_spec.specs.Directory.{Directory, File, Files, directory, files_after}
use Rattle.store_spec.specs.FileNames.{IsDefinitionName}
use Rattle.store_spec.specs.Settled.{IsSure}
use Rattle.store_spec.proofs.Operating.{files_more}
use Rattle.store_spec.proofs.Stands.{stands_alike}
use Rattle.def_keeper.specs.declared.outcome.Found.{Found}
use Rattle.def_keeper.specs.declared.outcome.FoundDefinition.{FoundDefinition}
use Rattle.def_keeper.specs.declared.outcome.OpenFault.{OpenFault}
use Rattle.def_keeper.specs.declared.outcome.OpenFault.TheVariants as fault
use Rattle.def_keeper.specs.Finding.{HasFoundAt, IsFirstIn}
use Rattle.def_map.specs.Map.{found, no_rows, MapRows}
use Rattle.def_keeper.specs.Opened.{AreSure, HasOpened, HasTidied, IsOpened, IsRefused, IsSureAt}
use Rattle.def_keeper.specs.Opening.{ComesNext, HasFound, IsFirstBad, IsInOrder, IsWhole, is_listed}
use Rattle.def_keeper.specs.Safe.{IsSettledAt}
use Rattle.def_keeper.specs.Tidying.{HasRemoved, HasReported, IsTidying}
use Rattle.def_map.proofs.MapFinds.{found_none}
use Rattle.def_keeper.proofs.Goings.{settled_sure}
use Rattle.def_keeper.proofs.Opens.{found_first, found_whole, unlisted_none}
use Rattle.def_keeper.proofs.Tidies.{tidying_aside}

some_none : (b : List ℕ) → Some b ≡ None → ⊥
some_none b is = cc

-- tidying changes no definition's file
pub files_kept : (os added : List Operation) → All IsTidying added → (n : List ℕ) → IsDefinitionName n → files_after (os ++ added) n ≡ files_after os n
files_kept os [] only n is = ap (λ (l : List Operation). files_after l n) (append-nil os)
files_kept os (o ∷ rest) only n is =
    ap (λ (l : List Operation). files_after l n) (sym (append_assoc os (o ∷ []) rest))
    ∙ files_kept (os ++ o ∷ []) rest (λ k d lt. only (suc k) d (omega (arith, lt))) n is
    ∙ ap (λ (fs : Files). fs n) (files_more os o)
    ∙ (tidying_aside o (only 0 o (omega arith))).files (files_after os) n is

-- a sync of the directory changes no file
same_synced : (os : List Operation) (n : List ℕ) → directory (os ++ op.SyncDirectory ∷ []) n ≡ directory os n
same_synced os n = ap (λ (fs : Files). option_map (λ f. f.bytes) (fs n)) (files_more os op.SyncDirectory)

-- a file is listed
has_name : (d : Directory) (names : List (List ℕ)) (n bytes : List ℕ) → Lists d names → d n ≡ Some bytes → is_listed n names ≡ true
has_name d names n bytes lists content = ⊎_elim
    (λ there. there)
    (λ gone. absurd (some_none bytes (sym content ∙ unlisted_none d names n lists gone)))
    (cases_Bool (is_listed n names))

opened_so : (os mid : List Operation) (names : List (List ℕ)) (map : Definitions) (f : Found) → Lists (directory os) names → HasFound names (directory os) map f.definitions
    → HasReported names (directory os) f.statuses → HasRemoved names os mid → HasOpened os (mid ++ op.SyncDirectory ∷ []) map f
opened_so os mid names map f lists definitions statuses r = record {
  definitions = whole;
  statuses = record {
    files = statuses.files;
    rising = statuses.rising;
    all = λ n bytes says content. statuses.all n bytes (has_name (directory os) names n bytes lists content) says content;
    told = statuses.told;
  };
  removed = λ n says. same_synced mid n ∙ ⊎_elim
      (λ there. r.gone n there says)
      (λ gone. r.absent n (unlisted_none (directory os) names n lists gone))
      (cases_Bool (is_listed n names));
  settled = λ sure. settled_sure mid map
      (λ n is. subst IsSure (sym (kept n is)) (sure n is))
      (stands_alike (directory os) (directory mid) map (λ n is. ap (λ (x : Option File). option_map (λ g. g.bytes) x) (kept n is)) whole.stands);
}
  where
    whole : IsWhole (directory os) map f.definitions
    whole = found_whole (directory os) names map f.definitions lists definitions

    kept : (n : List ℕ) → IsDefinitionName n → files_after mid n ≡ files_after os n
    kept n is = ap (λ (l : List Operation). files_after l n) r.is ∙ files_kept os r.added r.only n is

pub opened_at : (told new : Told) (names : List (List ℕ)) (map : Definitions) (f : Found) → IsListed told names → HasFoundAt told names map f.definitions → HasTidied told names f.statuses new → IsOpened told new map f
opened_at None new names map f lists definitions tidied = tt
opened_at (Some os) new names map f lists definitions (statuses, (removed, (mid, told_is, r), is)) =
    (mid ++ op.SyncDirectory ∷ [], is ∙ ap (λ (t : Told). more t op.SyncDirectory) told_is, opened_so os mid names map f lists definitions statuses r)

pub first_at : (told : Told) (map : MapRows) (rows : List FoundDefinition) → map ≡ no_rows → rows ≡ [] → HasFoundAt told [] (found map) rows
first_at None map rows none empty = tt
first_at (Some os) map rows none empty = found_first (directory os) (found map) rows (λ k u. ap (λ (m : MapRows). found m k u) none ∙ found_none k u) empty

-- what is sure stays settled
pub settled_at : (told new : Told) (map : Definitions) (f : Found) → IsSureAt told → IsOpened told new map f → IsSettledAt new map
settled_at None new map f (os, is, sure) opened = absurd (never os is)
  where
    never : (os : List Operation) → None ≡ Some os → ⊥
    never os is = cc
settled_at (Some os) new map f (os', is, sure) (now, told_is, o) = (now, told_is, o.settled (subst AreSure (sym (same os os' is)) sure))
  where
    same : (a b : List Operation) → Some a ≡ Some b → a ≡ b
    same a b is = cc

-- the first fault is what is refused
next_of : (os : List Operation) (names : List (List ℕ)) (f : OrNoMemory OpenFault) (bytes : List ℕ) → Lists (directory os) names → IsInOrder names → (i : IsFirstIn (Some os) names f) → directory os i.name ≡ Some bytes → ComesNext (directory os) i.name bytes i.map
next_of os names f bytes lists ordered i content = record {
  names = names;
  rows = i.rows;
  at = i.at;
  listed = lists;
  ordered = ordered;
  within = i.within;
  next = i.next;
  before = i.before;
  content = content;
}

pub refused_at : (told : Told) (names : List (List ℕ)) (f : OrNoMemory OpenFault) → IsListed told names → IsInOrder names → IsFirstIn told names f → IsRefused told f
refused_at told names or.NoMemory lists ordered i = tt
refused_at None names (or.Fault f) lists ordered i = tt
refused_at (Some os) names (or.Fault fault.Device) lists ordered i = tt
refused_at (Some os) names (or.Fault (fault.NotADefinition file)) lists ordered i =
    let w = i.wrong in
    let bytes = w.1.0 in
    subst (λ (n : List ℕ). IsFirstBad (directory os) n) (sym w.1.2.0) (record {
      map = i.map;
      bytes = bytes;
      next = next_of os names (or.Fault (fault.NotADefinition file)) bytes lists ordered i w.1.1;
      says = w.0;
      bad = w.1.2.1;
    })
refused_at (Some os) names (or.Fault (fault.TwoOfOneName k one two)) lists ordered i =
    let w = i.wrong in
    let bytes = w.1.0 in
    let s = w.1.2 in record {
      map = i.map;
      bytes = bytes;
      version = s.version;
      entry = s.entry;
      other = s.other.entry;
      next = subst (λ (n : List ℕ). ComesNext (directory os) n bytes i.map) s.named (next_of os names (or.Fault (fault.TwoOfOneName k one two)) bytes lists ordered i w.1.1);
      file = s.file;
      kept = s.other.kept;
      same_name = s.other.same_name;
      apart = s.other.apart;
    }
