use Rattle.std.proofs.Common.{subst, ◌∙◌, ap}
use Rattle.types_base.specs.Memory.{UnlessNoMemory}
use Rattle.book_spec.specs.declared.list.ListCall.TheVariants as call
use Rattle.book_spec.specs.ListCalls.{answer}
use Rattle.book_spec.specs.ListHistory.{slots_of}
use Rattle.object_list.proofs.Chronicles.{kept-marked, answer-uuid, effect-uuid}
use Rattle.object_list.proofs.list.ObjectList.hold_uuid.Goals as goal

pub invariant_of-self : goal.invariant_of-self
invariant_of-self g c = kept-marked g.number (call.HoldUuid c.args.uuid) c.hold_found-held.result c.self.inside.table c.hold_found-held.new.table c.self.inside.chronicle c.mark_uuid.new.chronicle c.self.invariant
    (answer-uuid c.args.uuid c.self.inside.table c.slot_of_uuid-found.result c.hold_found-held.result c.slot_of_uuid-found.ensures c.hold_found-held.ensures.answer)
    (effect-uuid g.number c.args.uuid c.hold_found-held.result c.self.inside.table c.hold_found-held.new.table c.hold_found-held.ensures.held)
    c.mark_uuid.ensures c.hold_found-held.ensures.most

pub returns-clause-answer : goal.returns-clause-answer
returns-clause-answer g c = subst (λ slots. UnlessNoMemory c.hold_found-held.result (answer (call.HoldUuid c.args.uuid) slots)) (c.self.invariant.same ∙ ap slots_of c.self.view_is)
    (answer-uuid c.args.uuid c.self.inside.table c.slot_of_uuid-found.result c.hold_found-held.result c.slot_of_uuid-found.ensures c.hold_found-held.ensures.answer)
