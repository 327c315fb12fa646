-- A call that looks whether its operation may begin, or may be taken up, where its refusal is set aside.
use Rattle.std.proofs.Common.{◌≡◌, ℕ, inl, inr, is_some, true, Option, None, Some, sym, ap, ◌∙◌, subst}
use Rattle.job_rules.specs.declared.record.JobRecord.{JobRecord}
use Rattle.domain_spec.specs.Types.{Call, Who}
use Rattle.domain_spec.specs.Call.{begins, takes_up}
use Rattle.domain_spec.specs.Cell.{Queue}
use Rattle.domain_spec.specs.Kept.{left_queue}
use Rattle.domain_spec.specs.Open.{Excludes, job_held, operation_held}
use Rattle.core_steps.specs.OfRecord.{Recorded, force_of}
use Rattle.core_steps.specs.Looking.{with_room}
use Rattle.core_steps.proofs.Refused.{left_joined}
use Rattle.core_steps.specs.Beginning.{BeginsSo, TakesUpSo, WaitsSo}
use Rattle.core_steps.specs.declared.beginning.OperationLook.TheVariants as look
use Rattle.domain_core.specs.Entering.{EntersSo, Operates}

still_waits : (n : ℕ) (who : Who) (c : Call) (old mid new : Recorded) (q p : Queue) (held : JobRecord) (boot : Option ℕ) (looks : ℕ)
    → WaitsSo n who c old mid q p (look.Excluded held boot looks) → new ≡ with_room mid new.spare → WaitsSo n who c old new q p (look.Excluded held boot looks)
still_waits n who c old mid new q p held boot looks x same = (same ∙ ap (λ (r : Recorded). with_room r new.spare) x.0, x.1, x.2, x.3, x.4, x.5)

none_waits : (n : ℕ) (who : Who) (c : Call) (old mid new : Recorded) (q p z : Queue) (held : JobRecord) (boot : Option ℕ) (looks : ℕ)
    → WaitsSo n who c old mid q p (look.Excluded held boot looks) → new ≡ with_room mid new.spare → z ≡ left_queue p n who → WaitsSo n who c old new q z look.NoMemory
none_waits n who c old mid new q p z held boot looks x same left =
    (same ∙ ap (λ (r : Recorded). with_room r new.spare) x.0, left ∙ ap (λ (y : Queue). left_queue y n who) x.1 ∙ left_joined q n who)

excluded_still : (n : ℕ) (who : Who) (c : Call) (old mid : Recorded) (q p : Queue) (held : JobRecord) (boot : Option ℕ) (looks : ℕ) → Excludes (job_held (force_of old).job) (operation_held (force_of old).operation) c who
    → WaitsSo n who c old mid q p (look.Excluded held boot looks) → Excludes (job_held (force_of mid).job) (operation_held (force_of mid).operation) c who
excluded_still n who c old mid q p held boot looks excluded x =
    subst (λ (r : Recorded). Excludes (job_held (force_of r).job) (operation_held (force_of r).operation) c who) (sym x.0) excluded

-- of a call that begins an operation

still_begins_so : (n : ℕ) (who : Who) (c : Call) (old mid new : Recorded) (q p : Queue) (held : JobRecord) (boot : Option ℕ) (looks : ℕ)
    → BeginsSo n who c old mid q p (look.Excluded held boot looks) → new ≡ with_room mid new.spare → BeginsSo n who c old new q p (look.Excluded held boot looks)
still_begins_so n who c old mid new q p held boot looks (inl x) same = absurd x.1
still_begins_so n who c old mid new q p held boot looks (inr x) same = inr (x.0, still_waits n who c old mid new q p held boot looks x.1 same)

none_begins_so : (n : ℕ) (who : Who) (c : Call) (old mid new : Recorded) (q p z : Queue) (held : JobRecord) (boot : Option ℕ) (looks : ℕ)
    → BeginsSo n who c old mid q p (look.Excluded held boot looks) → new ≡ with_room mid new.spare → z ≡ left_queue p n who → BeginsSo n who c old new q z look.NoMemory
none_begins_so n who c old mid new q p z held boot looks (inl x) same left = absurd x.1
none_begins_so n who c old mid new q p z held boot looks (inr x) same left = inr (x.0, none_waits n who c old mid new q p z held boot looks x.1 same left)

begins_excluded : (n : ℕ) (who : Who) (c : Call) (old mid : Recorded) (q p : Queue) (held : JobRecord) (boot : Option ℕ) (looks : ℕ)
    → BeginsSo n who c old mid q p (look.Excluded held boot looks) → Excludes (job_held (force_of mid).job) (operation_held (force_of mid).operation) c who
begins_excluded n who c old mid q p held boot looks (inl x) = absurd x.1
begins_excluded n who c old mid q p held boot looks (inr x) = excluded_still n who c old mid q p held boot looks x.0 x.1

-- of one that takes an operation up

still_takes_so : (n : ℕ) (who : Who) (c : Call) (old mid new : Recorded) (q p : Queue) (held : JobRecord) (boot : Option ℕ) (looks : ℕ)
    → TakesUpSo n who c old mid q p (look.Excluded held boot looks) → new ≡ with_room mid new.spare → TakesUpSo n who c old new q p (look.Excluded held boot looks)
still_takes_so n who c old mid new q p held boot looks (inl x) same = absurd x.1
still_takes_so n who c old mid new q p held boot looks (inr x) same = inr (x.0, still_waits n who c old mid new q p held boot looks x.1 same)

none_takes_so : (n : ℕ) (who : Who) (c : Call) (old mid new : Recorded) (q p z : Queue) (held : JobRecord) (boot : Option ℕ) (looks : ℕ)
    → TakesUpSo n who c old mid q p (look.Excluded held boot looks) → new ≡ with_room mid new.spare → z ≡ left_queue p n who → TakesUpSo n who c old new q z look.NoMemory
none_takes_so n who c old mid new q p z held boot looks (inl x) same left = absurd x.1
none_takes_so n who c old mid new q p z held boot looks (inr x) same left = inr (x.0, none_waits n who c old mid new q p z held boot looks x.1 same left)

takes_excluded : (n : ℕ) (who : Who) (c : Call) (old mid : Recorded) (q p : Queue) (held : JobRecord) (boot : Option ℕ) (looks : ℕ)
    → TakesUpSo n who c old mid q p (look.Excluded held boot looks) → Excludes (job_held (force_of mid).job) (operation_held (force_of mid).operation) c who
takes_excluded n who c old mid q p held boot looks (inl x) = absurd x.1
takes_excluded n who c old mid q p held boot looks (inr x) = excluded_still n who c old mid q p held boot looks x.0 x.1

-- of either

pub still_enters_so : (n : ℕ) (who : Who) (c : Call) (old mid new : Recorded) (q p : Queue) (held : JobRecord) (boot : Option ℕ) (looks : ℕ)
    → EntersSo n who c old mid q p (look.Excluded held boot looks) → new ≡ with_room mid new.spare → EntersSo n who c old new q p (look.Excluded held boot looks)
still_enters_so n who c old mid new q p held boot looks (inl (begins, x)) same = inl (begins, still_begins_so n who c old mid new q p held boot looks x same)
still_enters_so n who c old mid new q p held boot looks (inr (takes, x)) same = inr (takes, still_takes_so n who c old mid new q p held boot looks x same)

pub none_enters_so : (n : ℕ) (who : Who) (c : Call) (old mid new : Recorded) (q p z : Queue) (held : JobRecord) (boot : Option ℕ) (looks : ℕ)
    → EntersSo n who c old mid q p (look.Excluded held boot looks) → new ≡ with_room mid new.spare → z ≡ left_queue p n who → EntersSo n who c old new q z look.NoMemory
none_enters_so n who c old mid new q p z held boot looks (inl (begins, x)) same left = inl (begins, none_begins_so n who c old mid new q p z held boot looks x same left)
none_enters_so n who c old mid new q p z held boot looks (inr (takes, x)) same left = inr (takes, none_takes_so n who c old mid new q p z held boot looks x same left)

pub enters_excluded : (n : ℕ) (who : Who) (c : Call) (old mid : Recorded) (q p : Queue) (held : JobRecord) (boot : Option ℕ) (looks : ℕ)
    → EntersSo n who c old mid q p (look.Excluded held boot looks) → Excludes (job_held (force_of mid).job) (operation_held (force_of mid).operation) c who
enters_excluded n who c old mid q p held boot looks (inl (begins, x)) = begins_excluded n who c old mid q p held boot looks x
enters_excluded n who c old mid q p held boot looks (inr (takes, x)) = takes_excluded n who c old mid q p held boot looks x

-- which of the two a call does

none_taken : {A : Type 0} (o : Option A) → o ≡ None → is_some o ≡ true → ⊥
none_taken None e some = cc
none_taken (Some k) e some = cc

pub must_begin : (d : Call) → takes_up d ≡ None → Operates d → is_some (begins d) ≡ true
must_begin d none (inl begins) = begins
must_begin d none (inr takes) = absurd (none_taken (takes_up d) none takes)
