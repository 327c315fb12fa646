-- A call that looks, where its refusal is set aside.
use Rattle.std.proofs.Common.{◌≡◌, ◌≤◌, ℕ, inl, inr, Option, sym, ap, ◌∙◌, subst}
use Rattle.job_rules.specs.declared.record.JobRecord.{JobRecord}
use Rattle.domain_spec.specs.Types.{Call, Who}
use Rattle.domain_spec.specs.Cell.{Queue}
use Rattle.domain_spec.specs.Kept.{left_queue}
use Rattle.domain_spec.specs.Open.{Excludes, job_held, operation_held}
use Rattle.core_steps.specs.OfRecord.{Recorded, force_of}
use Rattle.core_steps.specs.Looking.{LooksSo, with_room}
use Rattle.core_steps.specs.Rooms.{HasEnd}
use Rattle.core_steps.specs.declared.looking.Looked.TheVariants as looked
use Rattle.core_steps.proofs.Refused.{left_joined}
use Rattle.core_steps.proofs.Roomy.{end_stays as more_room}

pub end_stays : (old new : Recorded) (rooms : ℕ) → new ≡ with_room old new.spare → old.spare ≤ new.spare → HasEnd old rooms → HasEnd new rooms
end_stays old new rooms same le has = more_room old new rooms same le has

-- what is taken for its refusal changes nothing of what the call found
pub still_excluded : (n : ℕ) (who : Who) (c : Call) (b : Option ℕ) (old mid new : Recorded) (q p : Queue) (held : JobRecord) (boot : Option ℕ) (looks : ℕ)
    → LooksSo n who c b old mid q p (looked.Excluded held boot looks) → new ≡ with_room mid new.spare → LooksSo n who c b old new q p (looked.Excluded held boot looks)
still_excluded n who c b old mid new q p held boot looks (inl x) same = absurd x.1
still_excluded n who c b old mid new q p held boot looks (inr x) same =
    inr (x.0, (same ∙ ap (λ (r : Recorded). with_room r new.spare) x.1.0, x.1.1, x.1.2, x.1.3, x.1.4, x.1.5))

-- where there is no memory for it the call leaves as if it had not come
pub none_looked : (n : ℕ) (who : Who) (c : Call) (b : Option ℕ) (old mid new : Recorded) (q p z : Queue) (held : JobRecord) (boot : Option ℕ) (looks : ℕ)
    → LooksSo n who c b old mid q p (looked.Excluded held boot looks) → new ≡ with_room mid new.spare → z ≡ left_queue p n who → LooksSo n who c b old new q z looked.NoMemory
none_looked n who c b old mid new q p z held boot looks (inl x) same left = absurd x.1
none_looked n who c b old mid new q p z held boot looks (inr x) same left =
    inr (x.0, (same ∙ ap (λ (r : Recorded). with_room r new.spare) x.1.0, left ∙ ap (λ (y : Queue). left_queue y n who) x.1.1 ∙ left_joined q n who))

-- what excluded it is held still
pub excluded_now : (n : ℕ) (who : Who) (c : Call) (b : Option ℕ) (old mid : Recorded) (q p : Queue) (held : JobRecord) (boot : Option ℕ) (looks : ℕ)
    → LooksSo n who c b old mid q p (looked.Excluded held boot looks) → Excludes (job_held (force_of mid).job) (operation_held (force_of mid).operation) c who
excluded_now n who c b old mid q p held boot looks (inl x) = absurd x.1
excluded_now n who c b old mid q p held boot looks (inr x) =
    subst (λ (r : Recorded). Excludes (job_held (force_of r).job) (operation_held (force_of r).operation) c who) (sym x.1.0) x.0
