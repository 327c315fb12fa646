-- States, kinds of operations and phases are found by their numbers.
use Rattle.std.proofs.Common.{◌≡◌, ◌==◌, ◌<◌, ◌^◌, ℕ, Bool, true, false, cond, Option, None, Some, refl, sym, ap, subst, ◌∙◌, lit<}
use Rattle.std.specs.Prelude.{◌≢◌, IfNone, IfSome}
use Rattle.std.specs.Option.{option_map}
use Rattle.std.proofs.lemmas.Bool.{eqb-true}
use Rattle.virt_types.specs.Numbers.{job_number, op_number, phase_number, state_number}
use Rattle.virt_types.specs.declared.operation.OpKind.{OpKind}
use Rattle.virt_types.specs.declared.operation.OpKind.TheVariants as op
use Rattle.virt_types.specs.declared.operation.Phase.{Phase}
use Rattle.virt_types.specs.declared.operation.Phase.TheVariants as phase
use Rattle.virt_types.specs.declared.run_state.DomainState.{DomainState}
use Rattle.virt_types.specs.declared.run_state.DomainState.TheVariants as state
use Rattle.procedure_spec.specs.Numbered.{every_kind, every_phase, every_state, job_numbered, kind_numbered, phase_numbered, state_numbered}
use Rattle.procedure_spec.proofs.Codes.{find_passes}

pub state_found : (n : ℕ) (x : DomainState) → state_numbered n ≡ Some x → state_number x ≡ n
unfolding state_numbered
state_found n x e = eqb-true _ _ (find_passes (λ (y : DomainState). state_number y == n) every_state x e)

pub state_again : (x : DomainState) → state_numbered (state_number x) ≡ Some x
unfolding state_numbered
state_again state.Running = refl
state_again state.Paused = refl
state_again state.ShutOff = refl
state_again state.Crashed = refl

pub state_small : (x : DomainState) → state_number x < 2 ^ 32
state_small state.Running = lit< tt
state_small state.Paused = lit< tt
state_small state.ShutOff = lit< tt
state_small state.Crashed = lit< tt

state_none : (n : ℕ) (found : Option DomainState) → state_numbered n ≡ found → ((x : DomainState) → state_number x ≢ n) → None ≡ found
state_none n None e absent = refl
state_none n (Some x) e absent = absurd (absent x (state_found n x e))

-- an answer that is one with the number, or none where there is none
pub state_is : (n : ℕ) (o : Option DomainState) → IfSome o (λ x. state_number x ≡ n) → IfNone o ((x : DomainState) → state_number x ≢ n) → o ≡ state_numbered n
state_is n (Some x) is absent = subst (λ (k : ℕ). Some x ≡ state_numbered k) is (sym (state_again x))
state_is n None is absent = state_none n (state_numbered n) refl absent

pub kind_found : (n : ℕ) (x : OpKind) → kind_numbered n ≡ Some x → op_number x ≡ n
unfolding kind_numbered
kind_found n x e = eqb-true _ _ (find_passes (λ (y : OpKind). op_number y == n) every_kind x e)

pub kind_again : (x : OpKind) → kind_numbered (op_number x) ≡ Some x
unfolding kind_numbered
kind_again op.Start = refl
kind_again op.Save = refl
kind_again op.Dump = refl
kind_again op.Snapshot = refl
kind_again op.Restore = refl
kind_again op.Revert = refl
kind_again op.MigrateOut = refl
kind_again op.MigrateIn = refl

pub kind_small : (x : OpKind) → op_number x < 2 ^ 32
kind_small op.Start = lit< tt
kind_small op.Save = lit< tt
kind_small op.Dump = lit< tt
kind_small op.Snapshot = lit< tt
kind_small op.Restore = lit< tt
kind_small op.Revert = lit< tt
kind_small op.MigrateOut = lit< tt
kind_small op.MigrateIn = lit< tt

kind_none : (n : ℕ) (found : Option OpKind) → kind_numbered n ≡ found → ((x : OpKind) → op_number x ≢ n) → None ≡ found
kind_none n None e absent = refl
kind_none n (Some x) e absent = absurd (absent x (kind_found n x e))

-- an answer that is one with the number, or none where there is none
pub kind_is : (n : ℕ) (o : Option OpKind) → IfSome o (λ x. op_number x ≡ n) → IfNone o ((x : OpKind) → op_number x ≢ n) → o ≡ kind_numbered n
kind_is n (Some x) is absent = subst (λ (k : ℕ). Some x ≡ kind_numbered k) is (sym (kind_again x))
kind_is n None is absent = kind_none n (kind_numbered n) refl absent

pub phase_found : (n : ℕ) (x : Phase) → phase_numbered n ≡ Some x → phase_number x ≡ n
unfolding phase_numbered
phase_found n x e = eqb-true _ _ (find_passes (λ (y : Phase). phase_number y == n) every_phase x e)

pub phase_again : (x : Phase) → phase_numbered (phase_number x) ≡ Some x
unfolding phase_numbered
phase_again phase.Nothing = refl
phase_again phase.Make = refl
phase_again phase.Run = refl
phase_again phase.Load = refl
phase_again phase.Copy = refl
phase_again phase.Poll = refl
phase_again phase.Take = refl
phase_again phase.Quit = refl
phase_again phase.Cancel = refl
phase_again phase.MigrateCopy = refl
phase_again phase.MigrateTake = refl
phase_again phase.MigrateCancel = refl
phase_again phase.MigrateLoad = refl
phase_again phase.Resting = refl
phase_again phase.MigrateQuit = refl
phase_again phase.MigrateBack = refl
phase_again phase.MigrateRun = refl
phase_again phase.MigrateDrop = refl

pub phase_small : (x : Phase) → phase_number x < 2 ^ 32
phase_small phase.Nothing = lit< tt
phase_small phase.Make = lit< tt
phase_small phase.Run = lit< tt
phase_small phase.Load = lit< tt
phase_small phase.Copy = lit< tt
phase_small phase.Poll = lit< tt
phase_small phase.Take = lit< tt
phase_small phase.Quit = lit< tt
phase_small phase.Cancel = lit< tt
phase_small phase.MigrateCopy = lit< tt
phase_small phase.MigrateTake = lit< tt
phase_small phase.MigrateCancel = lit< tt
phase_small phase.MigrateLoad = lit< tt
phase_small phase.Resting = lit< tt
phase_small phase.MigrateQuit = lit< tt
phase_small phase.MigrateBack = lit< tt
phase_small phase.MigrateRun = lit< tt
phase_small phase.MigrateDrop = lit< tt

phase_none : (n : ℕ) (found : Option Phase) → phase_numbered n ≡ found → ((x : Phase) → phase_number x ≢ n) → None ≡ found
phase_none n None e absent = refl
phase_none n (Some x) e absent = absurd (absent x (phase_found n x e))

-- an answer that is one with the number, or none where there is none
pub phase_is : (n : ℕ) (o : Option Phase) → IfSome o (λ x. phase_number x ≡ n) → IfNone o ((x : Phase) → phase_number x ≢ n) → o ≡ phase_numbered n
phase_is n (Some x) is absent = subst (λ (k : ℕ). Some x ≡ phase_numbered k) is (sym (phase_again x))
phase_is n None is absent = phase_none n (phase_numbered n) refl absent

-- ---- an operation that may be absent

operation_of : (b : Bool) (n : ℕ) (o : Option OpKind) (x : Option OpKind) → (n == 0) ≡ b → kind_numbered n ≡ o → (let all : Option (Option OpKind) = cond b (Some None) (option_map (λ k. Some k) o) in all ≡ Some x) → job_number x ≡ n
operation_of true n o x t k e =
    let same : None ≡ x = cc in
    subst (λ (y : Option OpKind). job_number y ≡ n) same (sym (eqb-true n 0 t))
operation_of false n None x t k e = absurd cc
operation_of false n (Some kind) x t k e =
    let same : Some kind ≡ x = cc in
    subst (λ (y : Option OpKind). job_number y ≡ n) same (kind_found n kind k)

pub operation_found : (n : ℕ) (x : Option OpKind) → job_numbered n ≡ Some x → job_number x ≡ n
operation_found n x e = operation_of (n == 0) n (kind_numbered n) x refl refl e

pub operation_again : (x : Option OpKind) → job_numbered (job_number x) ≡ Some x
unfolding kind_numbered
operation_again None = refl
operation_again (Some op.Start) = refl
operation_again (Some op.Save) = refl
operation_again (Some op.Dump) = refl
operation_again (Some op.Snapshot) = refl
operation_again (Some op.Restore) = refl
operation_again (Some op.Revert) = refl
operation_again (Some op.MigrateOut) = refl
operation_again (Some op.MigrateIn) = refl

pub operation_small : (x : Option OpKind) → job_number x < 2 ^ 32
operation_small None = lit< tt
operation_small (Some kind) = kind_small kind
