-- The calls ask nothing, and all but two of them change nothing.
use Rattle.std.proofs.Common.{◌≡◌, ◌∙◌, ℕ, [], Bool, true, false, List, Option, None, Some, if◌then◌else◌, refl, ap}
use Rattle.domain_spec.specs.Types.{Answer, Call, Domain, Live, State}
use Rattle.domain_spec.specs.Types.call
use Rattle.domain_spec.specs.Types.state
use Rattle.domain_spec.specs.declared.planned.PlannedAsk.{PlannedAsk}
use Rattle.domain_spec.specs.Asks.{asks_left}
use Rattle.domain_spec.specs.Call.{guest_plan, held_plan, plan_of}
use Rattle.domain_spec.specs.CallResult.{done, guest_step, held_step, step_of}
use Rattle.domain_spec.specs.Sequential.{makes_asks, still_asked}
use Rattle.core_rules.specs.Cores.{core_of_call}
use Rattle.core_rules.specs.Next.{next_of}
use Rattle.core_rules.specs.declared.cores.Core.TheVariants as core
use Rattle.core_rules.specs.declared.next.Next.TheVariants as next
use Rattle.save_core.proofs.NothingLeft.{nothing_left}

guest_asks_nothing : (live : Option Live) (c : Call) → core_of_call c ≡ core.Save → guest_plan live c ≡ []
guest_asks_nothing None c e = refl
guest_asks_nothing (Some l) call.Suspend e = cc
guest_asks_nothing (Some l) call.Resume e = cc
guest_asks_nothing (Some l) call.Shutdown e = cc
guest_asks_nothing (Some l) call.Reboot e = cc
guest_asks_nothing (Some l) call.Destroy e = cc
guest_asks_nothing (Some l) (call.SetMemory kib) e = cc
guest_asks_nothing (Some l) (call.SetVcpus n) e = cc
guest_asks_nothing (Some l) (call.Attach d) e = cc
guest_asks_nothing (Some l) (call.Detach d) e = cc
guest_asks_nothing (Some l) call.MemoryStats e = cc
guest_asks_nothing (Some l) (call.Kick n) e = cc
guest_asks_nothing (Some l) other e = refl

held_asks_nothing : (d : Domain) (c : Call) → core_of_call c ≡ core.Save → held_plan d c ≡ []
held_asks_nothing d (call.Define def) e = cc
held_asks_nothing d call.Undefine e = cc
held_asks_nothing d (call.SetAutostart on) e = cc
held_asks_nothing d other e = guest_asks_nothing d.live other e

no_plan : (s : State) (c : Call) → core_of_call c ≡ core.Save → plan_of s c ≡ []
no_plan (state.Held d) c e = held_asks_nothing d c e
no_plan (state.Vacant boots) (call.Define def) e = cc
no_plan (state.Vacant boots) other e = refl

nothing_by : (makes : Bool) (plan : List PlannedAsk) (answers : List Answer) → plan ≡ []
    → next_of (if makes then asks_left plan answers else []) ≡ next.Finish
nothing_by true plan answers e = ap (λ (p : List PlannedAsk). next_of (asks_left p answers)) e ∙ nothing_left answers
nothing_by false plan answers e = refl

-- a call asks nothing
pub nothing_asked :
    (s : State) (c : Call) (boot : Option ℕ) (answers : List Answer) → core_of_call c ≡ core.Save → next_of (still_asked s c boot answers) ≡ next.Finish
nothing_asked s c boot answers e = nothing_by (makes_asks s c boot) (plan_of s c) answers (no_plan s c e)

guest_idle : (d : Domain) (live : Option Live) (c : Call) (answers : List Answer) → core_of_call c ≡ core.Save → guest_step d live c answers ≡ done (state.Held d) []
guest_idle d None c answers e = refl
guest_idle d (Some l) call.Suspend answers e = cc
guest_idle d (Some l) call.Resume answers e = cc
guest_idle d (Some l) call.Reboot answers e = cc
guest_idle d (Some l) call.Destroy answers e = cc
guest_idle d (Some l) (call.SetMemory kib) answers e = cc
guest_idle d (Some l) (call.SetVcpus n) answers e = cc
guest_idle d (Some l) (call.Attach new) answers e = cc
guest_idle d (Some l) (call.Detach old) answers e = cc
guest_idle d (Some l) call.MemoryStats answers e = cc
guest_idle d (Some l) other answers e = refl

-- a call changes nothing but for two
pub idle :
    (d : Domain) (c : Call) (answers : List Answer) → core_of_call c ≡ core.Save → (c ≡ call.Abort → ⊥) → ((rest : ℕ) → c ≡ call.Limit rest → ⊥)
    → held_step d c answers ≡ done (state.Held d) []
idle d (call.Define def) answers e a l = cc
idle d call.Undefine answers e a l = cc
idle d (call.SetAutostart on) answers e a l = cc
idle d (call.SnapDelete name children) answers e a l = cc
idle d call.Abort answers e a l = absurd (a refl)
idle d (call.Limit rest) answers e a l = absurd (l rest refl)
idle d other answers e a l = guest_idle d d.live other answers e

-- without a domain a call changes nothing
pub vacant_idle : (boots : ℕ) (c : Call) (answers : List Answer) → core_of_call c ≡ core.Save → step_of (state.Vacant boots) c answers ≡ done (state.Vacant boots) []
vacant_idle boots (call.Define def) answers e = cc
vacant_idle boots other answers e = refl
