use Rattle.object_list.proofs.Tables.{least-table}
use Rattle.object_list.proofs.table.Table.least_free.Goals as goal

pub returns : goal.returns
returns c = rw (← c.self.view_is) (least-table c.self.inside.rows.items c.self.inside.by_name c.self.inside.by_uuid c.self.inside.free c.self.inside.holders c.self.invariant c.least.result c.least.ensures.some c.least.ensures.none)
