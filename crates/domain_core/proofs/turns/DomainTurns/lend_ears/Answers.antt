use Rattle.domain_core.proofs.Hearing.{lend_shows}
use Rattle.domain_core.proofs.Others.{lend_others}
use Rattle.domain_core.proofs.turns.DomainTurns.lend_ears.Goals as goal

pub returns-clause-boot : goal.returns-clause-boot
returns-clause-boot c =
    let i = c.self.inside in lend_shows c.args.self.now i.kept i.queue i.held.items i.ears i.excluded c.lend.result c.self.view_is c.lend.ensures.ok

pub returns-clause-others : goal.returns-clause-others
returns-clause-others c =
    let a = c.args in
    let i = c.self.inside in
    let l = c.lend in
    lend_others a.self.now i.kept l.new.kept i.queue i.held.items l.new.held.items i.ears l.new.ears i.excluded a.by.number l.result c.self.view_is l.ensures.same l.ensures.ok l.ensures.lent l.ensures.err
