use Rattle.std.proofs.Common.{◌≡◌, ◌+◌, ◌<◌, List, [], ◌∷◌, ◌++◌, Some, None, length, slice_get, sym, ap, ◌∙◌, arith}
use Rattle.std.proofs.lemmas.List.{length-append}
use Rattle.domain_spec.specs.declared.planned.PlannedAsk.{PlannedAsk}
use Rattle.core_plan.specs.PhaseGoing.{phase_planned}
use Rattle.core_plan.proofs.Probing.{plan_more, plan_over}
use Rattle.core_plan.proofs.phase_courses.+plan_on.Goals as goal

pub plan_on-requires : goal.plan_on-requires
plan_on-requires t c =
    let a = c.args in
    let plan = phase_planned a.state.now a.operation.now in
    let p = c.in-Ok-Some.planned in
    let got = rw c.in-Ok-Some.field-0-is at c.in-Ok-Some.ensures in
    let h = plan_more plan a.plan.now p c.requires (rw (sym c.len.ensures) got) in
    let few : length a.plan.now < length plan = h.1 in
    let put : c.push.new.self ≡ a.plan.now ++ p ∷ [] = c.in_ok-push-in-Ok-Some.ensures.ok in
    let more : length c.push.new.self ≡ length a.plan.now + 1 = ap (λ (xs : List PlannedAsk). length xs) put ∙ length-append a.plan.now (p ∷ []) in
    let bound = c.decreases in
    (omega (arith, few, more, bound), rw put h.0)

pub returns-in-Ok-None : goal.returns-in-Ok-None
returns-in-Ok-None t c =
    let a = c.args in
    let got = rw c.in-Ok-None.field-0-is at c.in-Ok-None.ensures in
    plan_over (phase_planned a.state.now a.operation.now) a.plan.now c.requires (rw (sym c.len.ensures) got)
