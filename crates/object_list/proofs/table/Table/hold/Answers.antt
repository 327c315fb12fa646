use Rattle.std.proofs.Common.{sym, ◌∙◌}
use Rattle.object_list.proofs.Tables.{held-table, unheld-table}
use Rattle.object_list.proofs.table.Table.hold.Goals as goal

pub invariant_of-self : goal.invariant_of-self
invariant_of-self g c = held-table c.self.inside.rows.items c.self.inside.by_name c.self.inside.by_uuid c.self.inside.free c.self.inside.holders c.self.invariant g.number c.args.slot c.hold_row.new.rows.items (sym c.hold_row.ensures.some ∙ c.if-hold_row.true) (rw c.self.view_is c.requires) c.hold_row.ensures.held

pub invariant_of-self-else-hold_row : goal.invariant_of-self-else-hold_row
invariant_of-self-else-hold_row g c = unheld-table c.self.inside.rows.items c.self.inside.by_name c.self.inside.by_uuid c.self.inside.free c.self.inside.holders c.self.invariant g.number c.args.slot c.hold_row.new.rows.items (sym c.hold_row.ensures.some ∙ c.if-hold_row.false) c.hold_row.ensures.held

pub returns-then-hold_row-clause-most : goal.returns-then-hold_row-clause-most
returns-then-hold_row-clause-most g c = (held-table c.self.inside.rows.items c.self.inside.by_name c.self.inside.by_uuid c.self.inside.free c.self.inside.holders c.self.invariant g.number c.args.slot c.hold_row.new.rows.items (sym c.hold_row.ensures.some ∙ c.if-hold_row.true) (rw c.self.view_is c.requires) c.hold_row.ensures.held).most
