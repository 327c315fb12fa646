use Rattle.std.proofs.Common.{sym, ap, ◌∙◌, subst}
use Rattle.std.specs.Vec.{vec_capacity, vec_len}
use Rattle.core_steps.specs.ClientLaws.{IsDropping}
use Rattle.core_steps.specs.OfRecord.{Recorded}
use Rattle.event_queue.specs.Listening.{dropped_by}
use Rattle.domain_spec.specs.CanTake.{CanTake}
use Rattle.domain_spec.specs.declared.core_step.CoreStep.TheVariants as step
use Rattle.core_steps.specs.Turning.{turning}
use Rattle.domain_core.specs.Core.{Core}
use Rattle.domain_core.proofs.Watching.{drop_turn}
use Rattle.domain_core.proofs.Others.{drop_others}
use Rattle.domain_core.proofs.turns.DomainTurns.drop_events.Goals as goal

pub returns-clause-drops : goal.returns-clause-drops
returns-clause-drops c =
    let a = c.args in
    let i = c.self.inside in
    let l = c.drop_events in
    let can = subst (λ (v : Core). CanTake v.turning.cell (step.Take a.by.number a.client)) (sym c.self.view_is) c.requires.can in
    subst (λ (v : Core). IsDropping a.by.number a.client v.turning (turning l.new.kept i.queue i.held.items i.ears)) c.self.view_is
    (drop_turn i.kept l.new.kept i.queue i.held.items i.ears i.excluded (vec_len i.rooms) (vec_capacity i.held) a.by.number a.client c.self.invariant can c.facts.ensures.apart
    c.facts.ensures.lost c.facts.ensures.waits c.facts.ensures.room l.ensures.dropped)

pub returns-clause-others : goal.returns-clause-others
returns-clause-others c =
    let a = c.args in
    let i = c.self.inside in
    let l = c.drop_events in
    drop_others a.self.now i.kept l.new.kept i.queue i.held.items i.ears i.excluded a.by.number a.client c.self.view_is c.requires.can c.facts.ensures.apart l.ensures.dropped

pub returns-clause-listeners : goal.returns-clause-listeners
returns-clause-listeners c =
    let a = c.args in
    ap (λ (r : Recorded). r.listeners) c.drop_events.ensures.dropped ∙ ap (λ (v : Core). dropped_by v.turning.listeners a.client) c.self.view_is
