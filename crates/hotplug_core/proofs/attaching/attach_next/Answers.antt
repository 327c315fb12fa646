-- A call that is refused asks nothing, and another one its plan.
use Rattle.std.proofs.Common.{◌≡◌, true, ap, sym, subst, ◌∙◌, OnErr}
use Rattle.std.proofs.lemmas.Result.{IfOk-weaker}
use Rattle.domain_spec.specs.Asks.{asks_left}
use Rattle.domain_spec.specs.Call.{guest_plan, plan_of}
use Rattle.domain_spec.specs.Sequential.{still_asked}
use Rattle.domain_spec.specs.Types.call
use Rattle.core_rules.specs.declared.next.Next.{Next}
use Rattle.core_rules.specs.Next.{is_ask, next_of}
use Rattle.hotplug_core.proofs.Judged.{attach_on_guest, nothing_asked, plan_asked}
use Rattle.hotplug_core.proofs.attaching.attach_next.Goals as goal
use Rattle.hotplug_core.proofs.attaching.attach_next.Goals.{After-attach_asks}

asks : (c : After-attach_asks) → next_of (asks_left (guest_plan c.in-Held.domain.live (call.Attach c.args.device.now)) c.args.answers.now) ≡ next_of (still_asked c.args.state.now (call.Attach c.args.device.now) c.args.boot c.args.answers.now)
asks c =
    ap (λ s. next_of (asks_left (plan_of s (call.Attach c.args.device.now)) c.args.answers.now)) (sym c.in-Held.is)
    ∙ plan_asked c.args.state.now (call.Attach c.args.device.now) c.args.boot c.args.answers.now (attach_on_guest c.args.state.now c.args.device.now) c.in-None.ensures

pub returns-in-Some-clause-next : goal.returns-in-Some-clause-next
returns-in-Some-clause-next c =
    nothing_asked c.args.state.now (call.Attach c.args.device.now) c.args.boot c.args.answers.now _ (attach_on_guest c.args.state.now c.args.device.now) c.in-Some.ensures

pub returns-in-Held-clause-next : goal.returns-in-Held-clause-next
returns-in-Held-clause-next c =
    IfOk-weaker c.attach_asks.result _ _ (λ next is. is ∙ asks (goal.at.returns-in-Held-clause-next c).After-attach_asks) c.attach_asks.ensures.next

pub returns-in-Held-clause-memory : goal.returns-in-Held-clause-memory
returns-in-Held-clause-memory c =
    subst (λ (next : Next). OnErr c.attach_asks.result (is_ask next ≡ true)) (asks (goal.at.returns-in-Held-clause-memory c).After-attach_asks) c.attach_asks.ensures.memory
