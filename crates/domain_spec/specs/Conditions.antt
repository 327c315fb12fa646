-- What single tests of calls ask.
use Rattle.std.specs.Prelude.{ℕ, ◌^◌, List, [], Bool, true, false, ◌&&◌, ◌||◌, not, length, nat_lt, nat_le, int_lt, ℤ, pos, is_none, is_some, option_map, find, Option, None, Some, if◌then◌else◌}
use Rattle.domain_spec.specs.Types.{DeviceDef, Domain, Live, Op, OpKind, Refusal, Snap}
use Rattle.domain_spec.specs.Types.kind
use Rattle.domain_spec.specs.declared.testing.Test.{Test}
use Rattle.domain_spec.specs.Migrating.{rests_as}
use Rattle.domain_spec.specs.Reading.{has_crashed, has_moved}
use Rattle.domain_spec.specs.Refusals.{bad_kick, boots_spent, invalid, list_full, no_device, no_slot, no_snapshot, out_of_range, snapshot_exists}
use Rattle.domain_spec.specs.Devices.{device_like, free_slot, key_of}
use Rattle.domain_spec.specs.Snapshots.{has_state, snapshot_named}

-- a test that fails where this is so
abbrev pub fails_if : Bool → Refusal → Test
fails_if b r = record { fails = b; refusal = r }

-- the refusal of the first test that fails
abbrev pub first_refusal : List Test → Option Refusal
first_refusal tests = option_map (λ t. t.refusal) (find (λ t. t.fails) tests)

-- there is no guest
abbrev pub inactive : Domain → Test
inactive d = fails_if (is_none d.live) (invalid d.live)

-- there is a guest
abbrev pub active : Domain → Test
active d = fails_if (is_some d.live) (invalid d.live)

-- the guest crashed
abbrev pub crashed : Domain → Test
crashed d = fails_if (has_crashed d.live) (invalid d.live)

-- there is no stored definition
abbrev pub none_stored : Domain → Test
none_stored d = fails_if (is_none d.stored) (invalid d.live)

-- no more boots can be numbered
abbrev pub spent : ℕ → Test
spent boots = fails_if (nat_le (2 ^ 62) boots) boots_spent

-- a number is not from low to high
abbrev pub outside : ℕ → ℕ → ℕ → Test
outside n low high = fails_if (nat_lt n low || nat_lt high n) (out_of_range n low high)

-- a number of KICK is not 1 to 5
abbrev pub bad_number : ℤ → Test
bad_number n = fails_if (int_lt n (pos 1) || int_lt (pos 5) n) (bad_kick n (int_lt n (pos 1)))

-- the most memory that the guest may have
abbrev pub live_memory : Option Live → ℕ
live_memory None = 0
live_memory (Some l) = l.def.memory

-- the most processors that the guest may have
abbrev pub live_vcpus : Option Live → ℕ
live_vcpus None = 0
live_vcpus (Some l) = l.def.vcpus

-- the guest has a device with the key of this one
abbrev pub has_key : Option Live → DeviceDef → Bool
has_key None d = false
has_key (Some l) d = is_some (device_like l d)

-- the guest has a slot without a device
abbrev pub has_free_slot : Option Live → Bool
has_free_slot None = false
has_free_slot (Some l) = is_some (free_slot l.slots)

-- operations that can be given up
abbrev pub is_abortable : OpKind → Bool
is_abortable kind.Save = true
is_abortable kind.Dump = true
is_abortable kind.Snapshot = true
is_abortable kind.MigrateOut = true
is_abortable other = false

-- the operation under way can be given up
abbrev pub can_abort : Option Op → Bool
can_abort None = false
can_abort (Some op) = is_abortable op.kind && not op.rests

-- no operation of this kind rests
abbrev pub none_resting : Domain → OpKind → Test
none_resting d k = fails_if (not (rests_as k d.op)) (invalid d.live)

-- the guest stands still between two hosts
abbrev pub moved : Domain → Test
moved d = fails_if (has_moved d.live) (invalid d.live)

-- no snapshot has this name
abbrev pub absent : Domain → List ℕ → Test
absent d name = fails_if (is_none (snapshot_named d.snaps name)) (no_snapshot name)

-- the snapshot is there and has a guest's state
abbrev pub state_kept : Option Snap → Bool
state_kept None = false
state_kept (Some snap) = has_state snap

-- a domain that is inactive gets a new boot from this snapshot
abbrev pub reverts_to_new_boot : Domain → List ℕ → Bool
reverts_to_new_boot d name = is_none d.live && state_kept (snapshot_named d.snaps name)

-- a device with this key is there already, or is not there
abbrev pub key_there : Domain → DeviceDef → Test
key_there d new = fails_if (has_key d.live new) (invalid d.live)

-- no device has the key of this one
abbrev pub key_absent : Domain → DeviceDef → Test
key_absent d old = fails_if (not (has_key d.live old)) (no_device (key_of old))

-- each slot has a device
abbrev pub no_free_slot : Domain → Test
no_free_slot d = fails_if (not (has_free_slot d.live)) no_slot

-- who goes back to a snapshot needs a new boot, and no more can be numbered
abbrev pub spent_at_revert : Domain → List ℕ → Test
spent_at_revert d name = fails_if (reverts_to_new_boot d name && nat_le (2 ^ 62) d.boots) boots_spent

-- a snapshot's name is there already; where the text has none, a free one is chosen
abbrev pub name_there : Domain → Option (List ℕ) → Test
name_there d None = fails_if false (snapshot_exists [])
name_there d (Some name) = fails_if (is_some (snapshot_named d.snaps name)) (snapshot_exists name)

-- the domain has as many snapshots as it may
abbrev pub snapshots_full : Domain → Test
snapshots_full d = fails_if (nat_le 64 (length d.snaps)) (list_full 64)

-- a call that was let in on no boot meets snapshots
abbrev pub has_snapshots : Domain → Option ℕ → Test
has_snapshots d boot = fails_if (is_none boot && nat_lt 0 (length d.snaps)) (invalid d.live)
