use Rattle.std.proofs.Common.{sym, subst}
use Rattle.std.specs.Vec.{vec_capacity, vec_len}
use Rattle.domain_spec.specs.declared.standing.Standing.{Standing}
use Rattle.core_steps.specs.Turning.{turning}
use Rattle.core_steps.specs.Phasing.{IsDue, Phases}
use Rattle.domain_core.specs.Core.{Core}
use Rattle.domain_core.proofs.Operating.{phase_turn}
use Rattle.domain_core.proofs.Shown.{force_shown}
use Rattle.domain_core.proofs.Others.{phase_others}
use Rattle.domain_core.proofs.turns.DomainTurns.phase.Goals as goal

pub phase-looked-requires-clause-due : goal.phase-looked-requires-clause-due
phase-looked-requires-clause-due c =
    let a = c.args in
    let i = c.self.inside in
    subst (λ (s : Standing). IsDue s.operation a.by.number a.who) (sym (force_shown a.self.now i.kept i.queue i.held.items i.ears i.excluded c.self.view_is)) c.requires.due

pub returns-clause-phases : goal.returns-clause-phases
returns-clause-phases c =
    let a = c.args in
    let i = c.self.inside in
    let l = c.phase-looked in
    let due = subst (λ (s : Standing). IsDue s.operation a.by.number a.who) (sym (force_shown a.self.now i.kept i.queue i.held.items i.ears i.excluded c.self.view_is)) c.requires.due in
    subst (λ (v : Core). Phases a.by.number a.who v.turning (turning l.new.kept i.queue i.held.items i.ears) l.result) c.self.view_is
    (phase_turn i.kept l.new.kept i.queue i.held.items i.ears i.excluded (vec_len i.rooms) (vec_capacity i.held) a.by.number a.who l.result c.self.invariant due
    c.facts.ensures.lost c.facts.ensures.waits c.facts.ensures.room c.facts-2.ensures.lost c.facts-2.ensures.waits l.ensures.phases)

pub returns-clause-others : goal.returns-clause-others
returns-clause-others c =
    let a = c.args in
    let i = c.self.inside in
    let l = c.phase-looked in
    phase_others a.self.now i.kept l.new.kept i.queue i.held.items i.ears i.excluded a.by.number a.who l.result c.self.view_is (returns-clause-phases c) l.ensures.phases
    c.facts.ensures.apart c.facts.ensures.waits c.facts-2.ensures.waits
