use Rattle.std.proofs.Common.{refl}
use Rattle.slot_holds.specs.Holds.{call_of}
use Rattle.held_tasks.proofs.Ways.{may_hold, served_so, was_not, was_so, without_idle}
use Rattle.held_tasks.proofs.serving.hold_and_serve.Goals as goal

pub returns-then-not-is_idle : goal.returns-then-not-is_idle
returns-then-not-is_idle g c =
    let a = c.args in
    let out = c.run_out.ensures in
    without_idle g.F.Files.told g.F.Files.faults g.G.Guests.faults g.G.E.Ears.ends g.G.E.Ears.faults g.G.E.Ears.unheard a.who (call_of a.hold.now) a.task.now a.row a.row c.run_out.result c.requires.ready (was_not c.is_idle.result c.if-not-is_idle.true c.is_idle.ensures) refl out.reply
    out.name

pub serve_in_slot-requires : goal.serve_in_slot-requires
serve_in_slot-requires g c =
    let a = c.args in
    let p = c.into_parts-list.result in
    let h = c.in-Ok.held in
    may_hold (call_of a.hold.now) c.in-Ok-held.slot h.2 h.1 c.into_pass.result h.0 c.new-list-in-Ok-held.result p.0 p.1 p.2 p.3 p.4 a.row c.of-row.result c.in-Ok.ensures.held c.in-Ok-held.is c.into_pass.ensures c.into_parts-list.ensures c.new-list-in-Ok-held.ensures
    c.of-row.ensures g.F.Files.told a.cells.now.list a.cells.now.store a.cells.now.domains.items c.requires.own c.requires.ready (was_so c.is_idle.result c.if-not-is_idle.false c.is_idle.ensures)

pub returns-in-Ok-held : goal.returns-in-Ok-held
returns-in-Ok-held g c =
    let a = c.args in
    let p = c.into_parts-list.result in
    let h = c.in-Ok.held in
    served_so (call_of a.hold.now) c.in-Ok-held.slot h.2 h.1 c.into_pass.result h.0 c.new-list-in-Ok-held.result p.0 p.1 p.2 p.3 p.4 a.row c.of-row.result c.in-Ok.ensures.held c.in-Ok-held.is c.into_pass.ensures c.into_parts-list.ensures c.new-list-in-Ok-held.ensures
    c.of-row.ensures g.F.Files.told g.F.Files.faults g.G.Guests.faults g.G.E.Ears.ends g.G.E.Ears.faults g.G.E.Ears.unheard a.who a.task.now c.serve_in_slot.result.0 c.serve_in_slot.result.1 c.serve_in_slot.ensures
