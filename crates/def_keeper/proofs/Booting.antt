-- A status file changes no definition.
use Rattle.std.proofs.Common.{⊎_elim, ◌++◌, List, ℕ, Option, Result, Ok, Err, codes, refl, sym, subst, take, arith}
use Rattle.std.specs.List.{AllByRecursion}
use Rattle.uuid.specs.Text.{hyphenated_text, lower}
use Rattle.virt_types.specs.Below.types_base.declared.memory.Fault.{Fault}
use Rattle.virt_types.specs.Below.types_base.declared.memory.Fault.TheVariants as fault
use Rattle.virt_types.specs.declared.status.Status.{Status}
use Rattle.files_disk.specs.Putting.{all_more}
use Rattle.files_disk.specs.Telling.{Told}
use Rattle.store_spec.specs.declared.operation.Operation.TheVariants as op
use Rattle.store_spec.specs.Changes.{Definitions}
use Rattle.store_spec.specs.FileNames.{file_name, status_draft, status_name}
use Rattle.store_spec.specs.StatusFile.{status_bytes}
use Rattle.store_spec.proofs.Settling.{IsAside}
use Rattle.def_keeper.specs.declared.mark.DefKey.{DefKey}
use Rattle.def_keeper.specs.Boots.{DropsStatus, PutsStatus, drafting_of}
use Rattle.def_keeper.specs.Marks.{StoreHistory}
use Rattle.def_keeper.specs.Safe.{IsKeptAt}
use Rattle.def_keeper.proofs.Asides.{IsNone, all_aside, at_aside, ending_apart, remove_aside, rename_aside, write_aside}

status_none : (uuid : List ℕ) → IsNone (status_name uuid)
unfolding file_name
status_none uuid n says is = ending_apart (codes "run" ++ codes "-" ++ hyphenated_text lower uuid) (codes ".sta") n 97 refl refl (λ e. omega (arith, e)) is says

draft_none : (uuid : List ℕ) → IsNone (status_draft uuid)
unfolding file_name
draft_none uuid n says is = ending_apart (codes "run" ++ codes "-" ++ hyphenated_text lower uuid) (codes ".tmp") n 112 refl refl (λ e. omega (arith, e)) is says

module _ (s : Status) (h : StoreHistory) (map : Definitions) (doubt : Option DefKey) where
  all : AllByRecursion IsAside (drafting_of (status_draft s.uuid) (status_name s.uuid) (status_bytes s))
  all = (write_aside (status_draft s.uuid) (status_bytes s) (draft_none s.uuid), (remove_aside (status_name s.uuid) (status_none s.uuid), (rename_aside (status_draft s.uuid) (status_name s.uuid) (draft_none s.uuid) (status_none s.uuid), tt)))

  begun : (told : Told) (n : ℕ) → IsKeptAt told h map doubt → IsKeptAt (all_more told (take n (drafting_of (status_draft s.uuid) (status_name s.uuid) (status_bytes s)))) h map doubt
  begun told n kept = all_aside h map doubt told (drafting_of (status_draft s.uuid) (status_name s.uuid) (status_bytes s)) n all kept

  pub status_kept : (told now : Told) (r : Result (Unit {0}) Fault) → PutsStatus s told now r → IsKeptAt told h map doubt → IsKeptAt now h map doubt
  status_kept told now (Ok done) is kept = subst (λ (t : Told). IsKeptAt t h map doubt) (sym is) (begun told 3 kept)
  status_kept told now (Err fault.Failed) how kept = ⊎_elim
      (λ part. subst (λ (t : Told). IsKeptAt t h map doubt) (sym part.1) (begun told part.0 kept))
      (λ torn. subst (λ (t : Told). IsKeptAt t h map doubt) (sym torn.1) (at_aside h map doubt told (op.Write (status_draft s.uuid) torn.0) (write_aside (status_draft s.uuid) torn.0 (draft_none s.uuid)) kept))
      how
  status_kept told now (Err fault.NoMemory) how kept = subst (λ (t : Told). IsKeptAt t h map doubt) (sym how.2) (begun told how.0 kept)

pub dropped_kept : (uuid : List ℕ) (told now : Told) (r : Result (Unit {0}) Fault) (h : StoreHistory) (map : Definitions) (doubt : Option DefKey) → DropsStatus uuid told now r → IsKeptAt told h map doubt → IsKeptAt now h map doubt
dropped_kept uuid told now (Ok done) h map doubt is kept = subst (λ (t : Told). IsKeptAt t h map doubt) (sym is) (at_aside h map doubt told (op.Remove (status_name uuid)) (remove_aside (status_name uuid) (status_none uuid)) kept)
dropped_kept uuid told now (Err fault.Failed) h map doubt how kept = ⊎_elim
    (λ is. subst (λ (t : Told). IsKeptAt t h map doubt) (sym is) (at_aside h map doubt told (op.Remove (status_name uuid)) (remove_aside (status_name uuid) (status_none uuid)) kept))
    (λ same. subst (λ (t : Told). IsKeptAt t h map doubt) (sym same) kept)
    how
dropped_kept uuid told now (Err fault.NoMemory) h map doubt same kept = subst (λ (t : Told). IsKeptAt t h map doubt) (sym same) kept
