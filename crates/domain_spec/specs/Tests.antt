-- The tests of each call, in their order. The first that fails gives the refusal, and no command
-- is sent.
use Rattle.std.specs.Prelude.{ℕ, ◌^◌, List, [], ◌∷◌, true, not, is_none, is_some, Option, if◌then◌else◌}
use Rattle.domain_spec.specs.Types.{Call, Domain, Refusal, State}
use Rattle.domain_spec.specs.Types.call
use Rattle.domain_spec.specs.Types.kind
use Rattle.domain_spec.specs.Types.state
use Rattle.domain_spec.specs.declared.testing.Test.{Test}
use Rattle.domain_spec.specs.Call.{begins}
use Rattle.domain_spec.specs.Migrating.{can_limit}
use Rattle.domain_spec.specs.Refusals.{invalid, no_domain}
pub use Rattle.domain_spec.specs.Conditions.{absent, active, bad_number, can_abort, crashed, fails_if, first_refusal, has_free_slot, has_key, has_snapshots, inactive, is_abortable, key_absent, key_there, live_memory, live_vcpus, moved, name_there, no_free_slot, none_resting, none_stored, outside, reverts_to_new_boot, snapshots_full, spent, spent_at_revert, state_kept}

-- the calls on a guest
abbrev pub live_tests : Domain → Call → List Test
live_tests d (call.SetMemory kib) = inactive d ∷ outside kib 1 (live_memory d.live) ∷ []
live_tests d (call.SetVcpus n) = inactive d ∷ outside n 1 (live_vcpus d.live) ∷ []
live_tests d (call.Attach new) = inactive d ∷ key_there d new ∷ no_free_slot d ∷ []
live_tests d (call.Detach old) = inactive d ∷ key_absent d old ∷ []
live_tests d (call.Kick n) = bad_number n ∷ inactive d ∷ []
live_tests d call.Reboot = inactive d ∷ []
live_tests d call.MemoryStats = inactive d ∷ []
live_tests d call.Suspend = inactive d ∷ crashed d ∷ moved d ∷ []
live_tests d (call.Limit rest) = inactive d ∷ fails_if (not (can_limit d.op)) (invalid d.live) ∷ outside rest 0 (2 ^ 40) ∷ []
live_tests d other = inactive d ∷ crashed d ∷ []

-- the calls that begin an operation; Start, Restore and Prepare are the other ones
abbrev pub operation_tests : Domain → Call → List Test
operation_tests d (call.Create def) = fails_if true (invalid d.live) ∷ []
operation_tests d (call.Save name) = inactive d ∷ crashed d ∷ []
operation_tests d (call.Dump name) = inactive d ∷ []
operation_tests d (call.Snapshot info) = name_there d info.name ∷ snapshots_full d ∷ crashed d ∷ []
operation_tests d call.Perform = inactive d ∷ crashed d ∷ []
operation_tests d (call.Revert name) = absent d name ∷ spent_at_revert d name ∷ []
operation_tests d other = active d ∷ spent d.boots ∷ []

-- the calls that begin no operation; Resume and Shutdown are the other ones on a guest
abbrev pub plain_tests : Domain → Option ℕ → Call → List Test
plain_tests d boot (call.Define def) = []
plain_tests d boot call.Destroy = fails_if (is_none boot) (invalid d.live) ∷ []
plain_tests d boot call.Undefine = none_stored d ∷ has_snapshots d boot ∷ []
plain_tests d boot (call.SetAutostart on) = none_stored d ∷ []
plain_tests d boot call.Abort = fails_if (not (can_abort d.op)) (invalid d.live) ∷ []
plain_tests d boot (call.SnapDelete name children) = absent d name ∷ []
plain_tests d boot (call.Confirm verdict) = none_resting d kind.MigrateOut ∷ []
plain_tests d boot (call.Finish go) = none_resting d kind.MigrateIn ∷ []
plain_tests d boot other = live_tests d other

-- the tests of a call in a cell with a domain
abbrev pub held_tests : Domain → Option ℕ → Call → List Test
held_tests d boot c = if is_some (begins c) then operation_tests d c else plain_tests d boot c

-- a vacant cell answers 42 to all but Define, Create, Restore and Prepare
abbrev pub tests_of : State → Option ℕ → Call → List Test
tests_of (state.Held d) boot c = held_tests d boot c
tests_of (state.Vacant boots) boot (call.Define def) = []
tests_of (state.Vacant boots) boot (call.Create def) = spent boots ∷ []
tests_of (state.Vacant boots) boot (call.Restore def running saved) = spent boots ∷ []
tests_of (state.Vacant boots) boot (call.Prepare def running saved) = spent boots ∷ []
tests_of (state.Vacant boots) boot c = fails_if true no_domain ∷ []

-- the refusal of the tests, if one fails
abbrev pub refusal_of : State → Option ℕ → Call → Option Refusal
refusal_of s boot c = first_refusal (tests_of s boot c)
