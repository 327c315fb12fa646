use Rattle.std.proofs.Common.{subst, ◌∙◌, ap}
use Rattle.types_base.specs.Memory.{UnlessNoMemory}
use Rattle.book_spec.specs.declared.list.ListCall.TheVariants as call
use Rattle.book_spec.specs.ListCalls.{answer}
use Rattle.book_spec.specs.ListHistory.{slots_of}
use Rattle.object_list.proofs.Chronicles.{kept-marked, answer-name, effect-name}
use Rattle.object_list.proofs.list.ObjectList.hold_name.Goals as goal

pub invariant_of-self : goal.invariant_of-self
invariant_of-self g c = kept-marked g.number (call.HoldName c.args.name.now) c.hold_found-held.result c.self.inside.table c.hold_found-held.new.table c.self.inside.chronicle c.mark_name.new.chronicle c.self.invariant
    (answer-name c.args.name.now c.self.inside.table c.slot_of_name-found.result c.hold_found-held.result c.slot_of_name-found.ensures c.hold_found-held.ensures.answer)
    (effect-name g.number c.args.name.now c.hold_found-held.result c.self.inside.table c.hold_found-held.new.table c.hold_found-held.ensures.held)
    c.mark_name.ensures c.hold_found-held.ensures.most

pub returns-clause-answer : goal.returns-clause-answer
returns-clause-answer g c = subst (λ slots. UnlessNoMemory c.hold_found-held.result (answer (call.HoldName c.args.name.now) slots)) (c.self.invariant.same ∙ ap slots_of c.self.view_is)
    (answer-name c.args.name.now c.self.inside.table c.slot_of_name-found.result c.hold_found-held.result c.slot_of_name-found.ensures c.hold_found-held.ensures.answer)
