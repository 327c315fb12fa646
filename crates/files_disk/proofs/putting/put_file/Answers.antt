use Rattle.std.proofs.Common.{◌∙◌, ⊎_elim, inl, ap}
use Rattle.store_spec.specs.declared.operation.Operation.TheVariants as op
use Rattle.files_disk.specs.Telling.{Told, more}
use Rattle.files_disk.proofs.putting.put_file.Goals as goal

pub returns-in-Err-clause-told : goal.returns-in-Err-clause-told
returns-in-Err-clause-told g c = inl (⊎_elim
    (λ done. (2, done ∙ ap (λ (t : Told). more t (op.Sync c.args.draft.now)) c.in-Ok.ensures.told))
    (λ none. (1, none ∙ c.in-Ok.ensures.told))
    c.in-Err.ensures.told)

pub returns-in-Err-Failed-rename-clause-told : goal.returns-in-Err-Failed-rename-clause-told
returns-in-Err-Failed-rename-clause-told g c =
    let two = c.in-Ok-sync.ensures.told ∙ ap (λ (t : Told). more t (op.Sync c.args.draft.now)) c.in-Ok.ensures.told in
    inl (⊎_elim
    (λ done. (3, done ∙ ap (λ (t : Told). more t (op.Rename c.args.draft.now c.args.name.now)) two))
    (λ none. (2, none ∙ two))
    c.in-Err-Failed-rename.ensures.told)

pub returns-in-Err-sync_dir-clause-told : goal.returns-in-Err-sync_dir-clause-told
returns-in-Err-sync_dir-clause-told g c =
    let two = c.in-Ok-sync.ensures.told ∙ ap (λ (t : Told). more t (op.Sync c.args.draft.now)) c.in-Ok.ensures.told in
    let three = c.in-Ok-rename.ensures.told ∙ ap (λ (t : Told). more t (op.Rename c.args.draft.now c.args.name.now)) two in
    inl (⊎_elim
    (λ done. (4, done ∙ ap (λ (t : Told). more t op.SyncDirectory) three))
    (λ none. (3, none ∙ three))
    c.in-Err-sync_dir.ensures.told)
