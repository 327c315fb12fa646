-- What a put of a status did where a call of the files failed.
use Rattle.std.proofs.Common.{◌≡◌, ◌⊎◌, ⊎_elim, inl, List, ℕ, ◌∙◌, ap}
use Rattle.store_spec.specs.declared.operation.Operation.TheVariants as op
use Rattle.files_disk.specs.Putting.{HasBegun}
use Rattle.files_disk.specs.Telling.{Told, more}
use Rattle.def_keeper.specs.Boots.{drafting_of}

-- the file of before was not removed
pub not_removed : (draft name content : List ℕ) (old written new : Told) → written ≡ more old (op.Write draft content)
    → (new ≡ more written (op.Remove name)) ⊎ (new ≡ written)
    → HasBegun (drafting_of draft name content) old new ⊎ ((bytes : List ℕ) × (new ≡ more old (op.Write draft bytes)))
not_removed draft name content old written new is how = inl (⊎_elim
    (λ done. (2, done ∙ ap (λ (t : Told). more t (op.Remove name)) is))
    (λ none. (1, none ∙ is))
    how)

-- the draft got no name
pub not_named : (draft name content : List ℕ) (old written removed new : Told) → written ≡ more old (op.Write draft content)
    → removed ≡ more written (op.Remove name) → (new ≡ more removed (op.Rename draft name)) ⊎ (new ≡ removed)
    → HasBegun (drafting_of draft name content) old new ⊎ ((bytes : List ℕ) × (new ≡ more old (op.Write draft bytes)))
not_named draft name content old written removed new is gone how =
    let so_far : removed ≡ more (more old (op.Write draft content)) (op.Remove name) = gone ∙ ap (λ (t : Told). more t (op.Remove name)) is in
    inl (⊎_elim
    (λ done. (3, done ∙ ap (λ (t : Told). more t (op.Rename draft name)) so_far))
    (λ none. (2, none ∙ so_far))
    how)
