use Rattle.std.specs.Vec.{vec_capacity, vec_len}
use Rattle.domain_core.proofs.Hearing.{event_goes}
use Rattle.domain_core.proofs.Others.{event_others}
use Rattle.domain_core.proofs.turns.DomainTurns.event.Goals as goal

pub returns-clause-happens : goal.returns-clause-happens
returns-clause-happens c =
    let a = c.args in
    let i = c.self.inside in
    let e = c.event-can_hold in
    event_goes a.self.now i.kept e.new.kept i.queue i.held.items e.new.held.items i.ears e.new.ears i.excluded (vec_len i.rooms) (vec_capacity i.held) (record { boot = a.boot; event = a.event_heard })
    c.self.view_is c.self.invariant c.facts.ensures.lost c.facts.ensures.waits c.facts.ensures.room c.facts-2.ensures.lost c.facts-2.ensures.waits
    e.ensures.happens e.ensures.held e.ensures.ears

pub returns-clause-others : goal.returns-clause-others
returns-clause-others c =
    let a = c.args in
    let i = c.self.inside in
    let e = c.event-can_hold in
    event_others a.self.now i.kept e.new.kept i.queue i.held.items e.new.held.items i.ears e.new.ears i.excluded a.by.number a.boot a.event_heard c.self.view_is (returns-clause-happens c) c.requires.own
    c.facts.ensures.apart c.facts.ensures.waits c.facts-2.ensures.waits e.ensures.course
