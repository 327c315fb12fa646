use Rattle.std.proofs.Common.{refl, subst}
use Rattle.std.specs.Vec.{vec_capacity, vec_len}
use Rattle.core_steps.specs.Turning.{turning}
use Rattle.domain_core.specs.Clients.{WatchesSo}
use Rattle.domain_core.specs.Core.{Core}
use Rattle.domain_core.proofs.Watching.{watch_turn}
use Rattle.domain_spec.specs.declared.core_step.CoreStep.TheVariants as step
use Rattle.domain_core.proofs.Others.{takes_others}
use Rattle.domain_core.proofs.turns.DomainTurns.watch.Goals as goal

pub returns-clause-watches : goal.returns-clause-watches
returns-clause-watches c =
    let a = c.args in
    let i = c.self.inside in
    let l = c.watch-watched in
    subst (λ (v : Core). WatchesSo a.by.number v.turning (turning l.new.kept i.queue i.held.items i.ears) l.result) c.self.view_is
    (watch_turn i.kept l.new.kept i.queue i.held.items i.ears i.excluded (vec_len i.rooms) (vec_capacity i.held) a.by.number l.result c.self.invariant
    c.facts.ensures.lost c.facts.ensures.waits c.facts.ensures.room c.facts-2.ensures.lost c.facts-2.ensures.waits l.ensures.watches)

pub returns-clause-others : goal.returns-clause-others
returns-clause-others c =
    let a = c.args in
    let i = c.self.inside in
    let l = c.watch-watched in
    takes_others a.self.now i.kept l.new.kept i.queue i.queue i.held.items i.held.items i.ears i.ears i.excluded a.by.number (step.Watch a.by.number) c.self.view_is (returns-clause-watches c).turn refl tt
    c.facts.ensures.apart c.facts.ensures.waits c.facts-2.ensures.waits l.ensures.course
