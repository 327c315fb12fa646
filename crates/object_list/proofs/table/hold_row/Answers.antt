use Rattle.std.proofs.Common.{arith}
use Rattle.object_list.proofs.Rows.{few_holders, held_again, stood}
use Rattle.object_list.proofs.table.hold_row.Goals as goal

pub hold-requires : goal.hold-requires
hold-requires g c = few_holders c.args.rows.now.items c.args.slot c.in-Some.row (stood c.args.rows.now.items c.args.slot c.index_mut.result.now c.take.result c.in-Some.row (omega (arith, c.if-slot-len.false, c.len.ensures, c.args.rows.now.ok.0)) c.index_mut.ensures.value c.take.ensures.value c.in-Some.is) c.requires

pub returns-clause-held : goal.returns-clause-held
returns-clause-held g c = held_again g.number c.args.rows.now.items c.args.slot c.take.new.self c.in-Some.row c.hold.new.self (stood c.args.rows.now.items c.args.slot c.index_mut.result.now c.take.result c.in-Some.row (omega (arith, c.if-slot-len.false, c.len.ensures, c.args.rows.now.ok.0)) c.index_mut.ensures.value c.take.ensures.value c.in-Some.is) c.hold.ensures
