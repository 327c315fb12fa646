-- The asks for the two sides come after the one for the address.
use Rattle.std.proofs.Common.{◌≡◌, ◌≤◌, ◌-◌, true, is_some, length, slice_get, sym, ap, ◌∙◌, arith, subst, Option, Some, OnErr}
use Rattle.std.proofs.lemmas.Result.{IfOk-weaker}
use Rattle.domain_spec.specs.Call.{attach_plan, device_lease}
use Rattle.domain_spec.specs.Types.{Ask}
use Rattle.core_rules.specs.Place.{planned_at}
use Rattle.hotplug_core.specs.Asks.{adding}
use Rattle.hotplug_core.proofs.Planned.{behind_front, in_any_case, lead_there, planned_two}
use Rattle.hotplug_core.proofs.asks.attach_ask.Goals as goal
use Rattle.hotplug_core.proofs.asks.attach_ask.Goals.{After-adding}

stands : (c : After-adding) → slice_get (adding c.args.device.now c.args.slot) (c.args.place - c.leases-leases.result) ≡ planned_at (attach_plan c.args.device.now (Some c.args.slot)) c.args.place
stands c =
    let front = device_lease c.args.device.now in
    let two = adding c.args.device.now c.args.slot in
    let within : length front ≤ c.args.place = omega (arith, c.leases-leases.ensures, c.if-place-leases.false) in
    ap (λ n. slice_get two (c.args.place - n)) c.leases-leases.ensures ∙ sym (behind_front front two c.args.place within) ∙ sym (planned_two front _ _ _ c.args.place)

pub returns-else-place-leases-clause-ask : goal.returns-else-place-leases-clause-ask
returns-else-place-leases-clause-ask c =
    IfOk-weaker c.adding.result _ _ (λ ask is. is ∙ stands (goal.at.returns-else-place-leases-clause-ask c).After-adding) c.adding.ensures.ask

pub returns-else-place-leases-clause-memory : goal.returns-else-place-leases-clause-memory
returns-else-place-leases-clause-memory c =
    subst (λ (o : Option Ask). OnErr c.adding.result (is_some o ≡ true)) (stands (goal.at.returns-else-place-leases-clause-memory c).After-adding) c.adding.ensures.memory

pub returns-then-place-leases-clause-memory : goal.returns-then-place-leases-clause-memory
returns-then-place-leases-clause-memory c =
    in_any_case c.device_lease.result (lead_there (device_lease c.args.device.now) _ _ _ c.args.place (omega (arith, c.leases-leases.ensures, c.if-place-leases.true)))
