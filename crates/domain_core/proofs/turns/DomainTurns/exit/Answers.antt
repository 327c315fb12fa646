use Rattle.std.specs.Vec.{vec_capacity, vec_len}
use Rattle.domain_core.proofs.Hearing.{exit_goes}
use Rattle.domain_core.proofs.Others.{exit_others}
use Rattle.domain_core.proofs.turns.DomainTurns.exit.Goals as goal

pub returns-clause-exits : goal.returns-clause-exits
returns-clause-exits c =
    let a = c.args in
    let i = c.self.inside in
    exit_goes a.self.now i.kept c.exit.new.kept i.queue i.held.items i.ears c.exit.new.ears i.excluded (vec_len i.rooms) (vec_capacity i.held) a.boot a.why c.self.view_is c.self.invariant
    c.facts.ensures.lost c.facts.ensures.waits c.facts.ensures.room c.facts-2.ensures.lost c.facts-2.ensures.waits c.exit.ensures.exits c.exit.ensures.ears

pub returns-clause-others : goal.returns-clause-others
returns-clause-others c =
    let a = c.args in
    let i = c.self.inside in
    exit_others a.self.now i.kept c.exit.new.kept i.queue i.held.items i.ears c.exit.new.ears i.excluded a.by.number a.boot a.why c.self.view_is (returns-clause-exits c) c.requires.own
    c.facts.ensures.apart c.facts.ensures.waits c.facts-2.ensures.waits c.exit.ensures.course
