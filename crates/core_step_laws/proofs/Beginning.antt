-- Where an operation begins with a new boot, it has to make it.
use Rattle.std.proofs.Common.{◌≡◌, ◌⊎◌, inl, inr, Bool, true, false, is_some, Option, None, Some, refl, unwrap_or, if◌then◌else◌}
use Rattle.domain_spec.specs.Types.{Call, Domain, DomainDef, Live, OpKind, Phase, Snap, State, Who}
use Rattle.domain_spec.specs.Types.call
use Rattle.domain_spec.specs.Types.kind
use Rattle.domain_spec.specs.Types.phase
use Rattle.domain_spec.specs.Types.state
use Rattle.domain_spec.specs.Begin.{begin_state, begun, begun_with, boot_definition, due_phase, first_phase, ran_there, revert_definition, revert_phase}
use Rattle.domain_spec.specs.Call.{begins}
use Rattle.domain_spec.specs.CallResult.{new_domain}
use Rattle.domain_spec.specs.Reading.{live_boot}
use Rattle.domain_spec.specs.Snapshots.{has_state, snapshot_named}
use Rattle.domain_spec.specs.Tests.{state_kept}

-- a snapshot that has no state gives no definition, one that has it is made first
with_state : (b : Bool) (snap : Snap) → ((if b then Some snap.def else None) ≡ None) ⊎ (revert_phase false b ≡ phase.Make)
with_state true snap = inr refl
with_state false snap = inl refl

revert_makes : (live : Option Live) (snap : Option Snap) → (revert_definition live snap ≡ None) ⊎ (revert_phase (is_some live) (state_kept snap) ≡ phase.Make)
revert_makes (Some l) snap = inl refl
revert_makes None None = inl refl
revert_makes None (Some snap) = with_state (has_state snap) snap

makes_new : (d : Domain) (c : Call) → (boot_definition d c ≡ None) ⊎ (first_phase d c ≡ phase.Make)
makes_new d call.Start = inr refl
makes_new d (call.Create def) = inr refl
makes_new d (call.Restore def running saved) = inr refl
makes_new d (call.Prepare def running saved) = inr refl
makes_new d (call.Revert name) = revert_makes d.live (snapshot_named d.snaps name)
makes_new d other = inl refl

-- the guest is the one before, or the operation has to make it
abbrev pub KeepsOrMakes : State → State → Type 0
KeepsOrMakes s next = (live_boot next ≡ live_boot s) ⊎ (due_phase next ≡ phase.Make)

by_definition : (d : Domain) (k : OpKind) (who : Who) (ran : Bool) (first : Phase) (def : Option DomainDef) → (def ≡ None) ⊎ (first ≡ phase.Make) → KeepsOrMakes (state.Held d) (state.Held (begun_with d k who ran first def))
by_definition d k who ran first None h = inl refl
by_definition d k who ran first (Some def) (inl none) = cc
by_definition d k who ran first (Some def) (inr make) = inr make

by_domain : (d : Domain) (who : Who) (c : Call) → KeepsOrMakes (state.Held d) (state.Held (begun d who c))
by_domain d who c = by_definition d (unwrap_or (begins c) kind.Start) who (ran_there c) (first_phase d c) (boot_definition d c) (makes_new d c)

pub begin_makes : (s : State) (who : Who) (c : Call) → KeepsOrMakes s (begin_state s who c)
begin_makes (state.Held d) who c = by_domain d who c
begin_makes (state.Vacant boots) who (call.Create def) = by_domain (new_domain def boots) who (call.Create def)
begin_makes (state.Vacant boots) who (call.Restore def running saved) = by_domain (new_domain def boots) who (call.Restore def running saved)
begin_makes (state.Vacant boots) who (call.Prepare def running saved) = by_domain (new_domain def boots) who (call.Prepare def running saved)
begin_makes (state.Vacant boots) who other = inl refl
