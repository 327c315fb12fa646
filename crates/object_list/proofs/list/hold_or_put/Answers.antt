use Rattle.std.proofs.Common.{sym, ◌∙◌, ap, subst, List, ℕ}
use Rattle.book_spec.specs.Slots.{held_by, new_entry}
use Rattle.book_spec.specs.declared.list.Entry.{Entry}
use Rattle.object_list.specs.Table.{IsNew}
use Rattle.object_list.proofs.Chronicles.{gone_by, new-given}
use Rattle.object_list.proofs.list.hold_or_put.Goals as goal

pub put-requires-clause-free : goal.put-requires-clause-free
put-requires-clause-free g c =
    subst (λ (e : Entry). IsNew c.args.slot e.name e.uuid c.args.table.now)
    (sym (c.hold-2.ensures ∙ ap (held_by g.number) (c.new-row.ensures ∙ ap (λ (bytes : List ℕ). new_entry bytes c.args.uuid) c.in_ok-copy.ensures)))
    (new-given c.args.name.now c.args.uuid c.args.table.now c.args.slot (gone_by (λ row. row.now) c.get.result c.get.ensures (sym c.is_some.ensures ∙ c.if-is_some.false)) c.requires.1)
