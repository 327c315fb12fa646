-- Where an operation goes on, there is a number for the boot that it makes.
use Rattle.std.proofs.Common.{◌≡◌, ℕ, ◌<◌, ◌^◌, List, [], ◌∷◌, Bool, true, false, ◌&&◌, find, is_none, is_some, option_map, Option, None, Some, if◌then◌else◌, nat_le, refl, arith}
use Rattle.std.proofs.lemmas.Bool.Decides.{nat_tests}
use Rattle.domain_spec.specs.Types.{Call, Domain, DomainDef, Live, Snap, State}
use Rattle.domain_spec.specs.Types.call
use Rattle.domain_spec.specs.Types.state
use Rattle.domain_spec.specs.declared.testing.Test.{Test}
use Rattle.domain_spec.specs.Begin.{definition_with_state, revert_definition}
use Rattle.domain_spec.specs.Sequential.{goes_on_as_operation}
use Rattle.domain_spec.specs.Snapshots.{has_state, snapshot_named}
use Rattle.domain_spec.specs.Tests.{active, absent, first_refusal, refusal_of, spent, spent_at_revert, state_kept}
use Rattle.core_state.specs.Beginnings.{HasNumber, NumbersBoot}

-- the first of some tests passes, and so do the others

passes_by : (b : Bool) (t : Test) (ts : List Test) → is_none (option_map (λ (x : Test). x.refusal) (if b then Some t else find (λ x. x.fails) ts)) ≡ true
    → (b ≡ false) × (is_none (first_refusal ts) ≡ true)
passes_by true t ts e = cc
passes_by false t ts e = (refl, e)

first_passes : (t : Test) (ts : List Test) → is_none (first_refusal (t ∷ ts)) ≡ true → (t.fails ≡ false) × (is_none (first_refusal ts) ≡ true)
first_passes t ts e = passes_by t.fails t ts e

below : (boots : ℕ) → nat_le (2 ^ 62) boots ≡ false → boots < 2 ^ 62
below boots e = grind (arith, nat_tests, e)

numbered : (boots : ℕ) (o : Option DomainDef) → boots < 2 ^ 62 → NumbersBoot boots o
numbered boots None h = tt
numbered boots (Some def) h = h

-- a revert to a snapshot

with_state : (boots : ℕ) (snap : Snap) (b : Bool) → has_state snap ≡ b → (b && nat_le (2 ^ 62) boots) ≡ false → NumbersBoot boots (if b then Some snap.def else None)
with_state boots snap true is e = below boots e
with_state boots snap false is e = tt

reverted : (boots : ℕ) (l : Option Live) (snap : Option Snap) → ((is_none l && state_kept snap) && nat_le (2 ^ 62) boots) ≡ false → NumbersBoot boots (revert_definition l snap)
reverted boots None None e = tt
reverted boots None (Some snap) e = with_state boots snap (has_state snap) refl e
reverted boots (Some l) snap e = tt

-- a call whose tests pass

held : (d : Domain) (boot : Option ℕ) (c : Call) → is_none (refusal_of (state.Held d) boot c) ≡ true → HasNumber (state.Held d) c
held d boot call.Start e = numbered d.boots d.stored (below d.boots (first_passes (spent d.boots) [] (first_passes (active d) (spent d.boots ∷ []) e).1).0)
held d boot (call.Create def) e = cc
held d boot (call.Restore def running saved) e = below d.boots (first_passes (spent d.boots) [] (first_passes (active d) (spent d.boots ∷ []) e).1).0
held d boot (call.Prepare def running saved) e = below d.boots (first_passes (spent d.boots) [] (first_passes (active d) (spent d.boots ∷ []) e).1).0
held d boot (call.Revert name) e =
    reverted d.boots d.live (snapshot_named d.snaps name) (first_passes (spent_at_revert d name) [] (first_passes (absent d name) (spent_at_revert d name ∷ []) e).1).0
held d boot other e = tt

passes : (s : State) (boot : Option ℕ) (c : Call) → is_none (refusal_of s boot c) ≡ true → HasNumber s c
passes (state.Held d) boot c e = held d boot c e
passes (state.Vacant boots) boot (call.Create def) e = below boots (first_passes (spent boots) [] e).0
passes (state.Vacant boots) boot (call.Restore def running saved) e = below boots (first_passes (spent boots) [] e).0
passes (state.Vacant boots) boot (call.Prepare def running saved) e = below boots (first_passes (spent boots) [] e).0
passes (state.Vacant boots) boot other e = tt

last_of : (a b c : Bool) → (a && (b && c)) ≡ true → c ≡ true
last_of true true c e = e
last_of true false c e = cc
last_of false b c e = cc

pub has_number : (s : State) (c : Call) (boot : Option ℕ) → goes_on_as_operation s c boot ≡ true → HasNumber s c
has_number s c boot e = passes s boot c (last_of _ _ (is_none (refusal_of s boot c)) e)
