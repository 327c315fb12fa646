use Rattle.std.proofs.Common.{◌∙◌, ⊎_elim, ap}
use Rattle.store_spec.specs.declared.operation.Operation.TheVariants as op
use Rattle.files_disk.specs.Telling.{Told, more}
use Rattle.files_disk.proofs.putting.remove_file.Goals as goal

pub returns-in-Err-sync_dir-clause-told : goal.returns-in-Err-sync_dir-clause-told
returns-in-Err-sync_dir-clause-told g c = ⊎_elim
    (λ done. (2, done ∙ ap (λ (t : Told). more t op.SyncDirectory) c.in-Ok.ensures.told))
    (λ none. (1, none ∙ c.in-Ok.ensures.told))
    c.in-Err-sync_dir.ensures.told
