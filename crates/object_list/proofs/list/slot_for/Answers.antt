use Rattle.std.proofs.Common.{sym, ◌∙◌, ap, subst}
use Rattle.types_base.specs.Memory.{UnlessNoMemory}
use Rattle.book_spec.specs.Slots.{slot_of, name_of}
use Rattle.book_spec.specs.ListCalls.{claim_new}
use Rattle.object_list.specs.Table.{MayLackMemory}
use Rattle.object_list.proofs.Chronicles.{claim-named, claim-other, claim-free}
use Rattle.object_list.proofs.list.slot_for.Goals as goal

pub returns-in-Some : goal.returns-in-Some
returns-in-Some c =
    let is = claim-named c.args.name.now c.args.uuid c.args.table.now c.in-Some.slot (ap (λ n. slot_of name_of n c.args.table.now) (sym c.as_bytes.ensures.value) ∙ (sym c.slot_of_name.ensures ∙ c.in-Some.is)) in
    record {
      answer = subst (UnlessNoMemory c.slot_with.result) (sym is) c.slot_with.ensures.answer;
      no_memory = λ lacks. subst (λ given. MayLackMemory given c.args.table.now) (sym is) (c.slot_with.ensures.no_memory lacks);
    }

pub returns-in-Some-slot_of_uuid : goal.returns-in-Some-slot_of_uuid
returns-in-Some-slot_of_uuid c =
    let is = claim-other c.args.name.now c.args.uuid c.args.table.now c.in-Some-slot_of_uuid.slot (ap (λ n. slot_of name_of n c.args.table.now) (sym c.as_bytes.ensures.value) ∙ (sym c.slot_of_name.ensures ∙ c.in_default.is)) (sym c.slot_of_uuid.ensures ∙ c.in-Some-slot_of_uuid.is) in
    record {
      answer = subst (UnlessNoMemory c.exists.result) (sym is) c.exists.ensures.answer;
      no_memory = λ lacks. subst (λ given. MayLackMemory given c.args.table.now) (sym is) (c.exists.ensures.no_memory lacks);
    }

pub returns-in-Some-least_free-clause-answer : goal.returns-in-Some-least_free-clause-answer
returns-in-Some-least_free-clause-answer c =
    claim-free c.args.name.now c.args.uuid c.args.table.now (ap (λ n. slot_of name_of n c.args.table.now) (sym c.as_bytes.ensures.value) ∙ (sym c.slot_of_name.ensures ∙ c.in_default.is)) (sym c.slot_of_uuid.ensures ∙ c.in_default-slot_of_uuid.is)
    ∙ ap claim_new (sym c.least_free.ensures ∙ c.in-Some-least_free.is)

pub returns-in-None-clause-answer : goal.returns-in-None-clause-answer
returns-in-None-clause-answer c =
    claim-free c.args.name.now c.args.uuid c.args.table.now (ap (λ n. slot_of name_of n c.args.table.now) (sym c.as_bytes.ensures.value) ∙ (sym c.slot_of_name.ensures ∙ c.in_default.is)) (sym c.slot_of_uuid.ensures ∙ c.in_default-slot_of_uuid.is)
    ∙ ap claim_new (sym c.least_free.ensures ∙ c.in-None.is)
