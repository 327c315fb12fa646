use Rattle.std.proofs.Common.{sym, subst}
use Rattle.std.specs.Vec.{vec_capacity, vec_len}
use Rattle.domain_spec.specs.CanTake.{CanTake}
use Rattle.domain_spec.specs.declared.core_step.CoreStep.TheVariants as step
use Rattle.domain_core.specs.Core.{Core}
use Rattle.domain_core.proofs.Watching.{own_there, takes_on}
use Rattle.domain_core.proofs.Others.{take_others}
use Rattle.domain_core.proofs.turns.DomainTurns.take_events.Goals as goal

pub take_events-requires : goal.take_events-requires
take_events-requires c =
    let a = c.args in
    let i = c.self.inside in
    let can = subst (λ (v : Core). CanTake v.turning.cell (step.Take a.by.number a.client)) (sym c.self.view_is) c.requires.can in
    record { registered = (own_there i.kept i.queue i.held.items i.ears a.by.number a.client can c.facts.ensures.apart).0 }

pub returns-clause-takes : goal.returns-clause-takes
returns-clause-takes c =
    let a = c.args in
    let i = c.self.inside in
    let l = c.take_events in
    takes_on a.self.now i.kept l.new.kept i.queue i.held.items i.ears i.excluded (vec_len i.rooms) (vec_capacity i.held) a.by.number a.client l.result c.self.view_is c.self.invariant c.requires.can c.facts.ensures.apart
    c.facts.ensures.lost c.facts.ensures.waits c.facts.ensures.room l.ensures.ok

pub returns-clause-others : goal.returns-clause-others
returns-clause-others c =
    let a = c.args in
    let i = c.self.inside in
    let l = c.take_events in
    take_others a.self.now i.kept l.new.kept i.queue i.held.items i.ears i.excluded a.by.number a.client l.result c.self.view_is c.requires.can c.facts.ensures.apart l.ensures.ok l.ensures.err
