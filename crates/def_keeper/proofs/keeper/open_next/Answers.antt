use Rattle.std.proofs.Common.{◌∙◌}
use Rattle.def_keeper.proofs.Knowing.{opens_next, opens_same}
use Rattle.def_keeper.proofs.keeper.open_next.Goals as goal

pub returns-then-is_due : goal.returns-then-is_due
returns-then-is_due g c = c.turn.ensures ∙ opens_next (g.F.Files.told c.args.files.now) c.args.chronicle.now c.args.map.now c.args.doubt.now c.is_due.result c.is_due.ensures c.if-is_due.true

pub returns-else-is_due : goal.returns-else-is_due
returns-else-is_due g c = opens_same (g.F.Files.told c.args.files.now) c.args.chronicle.now c.args.map.now c.args.doubt.now c.is_due.result c.is_due.ensures c.if-is_due.false
