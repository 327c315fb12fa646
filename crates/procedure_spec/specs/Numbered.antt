-- States, kinds of operations and phases by their numbers.
use Rattle.std.specs.Prelude.{◌==◌, ℕ, List, [], ◌∷◌, Option, None, Some, find, option_map, if◌then◌else◌}
use Rattle.virt_types.specs.Numbers.{op_number, phase_number, state_number}
use Rattle.virt_types.specs.declared.operation.OpKind.{OpKind}
use Rattle.virt_types.specs.declared.operation.OpKind.TheVariants as op
use Rattle.virt_types.specs.declared.operation.Phase.{Phase}
use Rattle.virt_types.specs.declared.operation.Phase.TheVariants as phase
use Rattle.virt_types.specs.declared.run_state.DomainState.{DomainState}
use Rattle.virt_types.specs.declared.run_state.DomainState.TheVariants as state

abbrev pub every_state : List DomainState
every_state = state.Running ∷ state.Paused ∷ state.ShutOff ∷ state.Crashed ∷ []

unfoldable pub state_numbered : ℕ → Option DomainState
state_numbered number = find (λ s. state_number s == number) every_state

abbrev pub every_kind : List OpKind
every_kind = op.Start ∷ op.Save ∷ op.Dump ∷ op.Snapshot ∷ op.Restore ∷ op.Revert ∷ op.MigrateOut ∷ op.MigrateIn ∷ []

unfoldable pub kind_numbered : ℕ → Option OpKind
kind_numbered number = find (λ k. op_number k == number) every_kind

-- an operation that may be absent: 0 where it is
abbrev pub job_numbered : ℕ → Option (Option OpKind)
job_numbered number = if number == 0 then Some None else option_map (λ k. Some k) (kind_numbered number)

abbrev pub every_phase : List Phase
every_phase =
    phase.Nothing ∷ phase.Make ∷ phase.Run ∷ phase.Load ∷ phase.Copy ∷ phase.Poll ∷ phase.Take ∷ phase.Quit ∷
    phase.Cancel ∷ phase.MigrateCopy ∷ phase.MigrateTake ∷ phase.MigrateCancel ∷ phase.MigrateLoad ∷
    phase.Resting ∷ phase.MigrateQuit ∷ phase.MigrateBack ∷ phase.MigrateRun ∷ phase.MigrateDrop ∷ []

unfoldable pub phase_numbered : ℕ → Option Phase
phase_numbered number = find (λ p. phase_number p == number) every_phase
