use Rattle.std.proofs.Common.{sym, subst}
use Rattle.std.specs.Vec.{vec_capacity, vec_len}
use Rattle.domain_spec.specs.Cell.{share_of}
use Rattle.core_steps.specs.Turning.{turning}
use Rattle.domain_core.specs.Core.{Core}
use Rattle.domain_core.specs.Entering.{LooksFor}
use Rattle.domain_core.specs.Shares.{IsFree}
use Rattle.domain_core.proofs.Operating.{none_open_now, enter_turn}
use Rattle.domain_core.proofs.Others.{enter_others}
use Rattle.domain_core.proofs.Queued.{enter_queued}
use Rattle.domain_core.proofs.turns.DomainTurns.enter_op.Goals as goal

pub enter_on-looked-requires-clause-none_open : goal.enter_on-looked-requires-clause-none_open
enter_on-looked-requires-clause-none_open c =
    let a = c.args in
    let i = c.self.inside in
    let free = subst (λ (v : Core). IsFree (share_of v.turning.cell a.by.number) a.who) (sym c.self.view_is) c.requires.free in
    none_open_now i.kept i.queue i.held.items i.ears a.by.number a.who free

pub returns-clause-looks : goal.returns-clause-looks
returns-clause-looks c =
    let a = c.args in
    let i = c.self.inside in
    let l = c.enter_on-looked in
    let free = subst (λ (v : Core). IsFree (share_of v.turning.cell a.by.number) a.who) (sym c.self.view_is) c.requires.free in
    subst (λ (v : Core). LooksFor a.by.number a.who a.call.now v.turning (turning l.new.kept l.new.queue i.held.items i.ears) l.result) c.self.view_is
    (enter_turn i.kept l.new.kept i.queue l.new.queue i.held.items i.ears i.excluded (vec_len i.rooms) (vec_capacity i.held) a.by.number a.who a.call.now l.result c.self.invariant free
    c.facts.ensures.lost c.facts.ensures.waits c.facts.ensures.room c.facts-2.ensures.lost c.facts-2.ensures.waits l.ensures.looks)

pub returns-clause-others : goal.returns-clause-others
returns-clause-others c =
    let a = c.args in
    let i = c.self.inside in
    let l = c.enter_on-looked in
    enter_others a.self.now i.kept l.new.kept i.queue l.new.queue i.held.items i.ears i.excluded a.by.number a.who a.call.now l.result c.self.view_is (returns-clause-looks c) l.ensures.looks
    c.facts.ensures.apart c.facts.ensures.waits c.facts-2.ensures.waits

pub returns-clause-queue : goal.returns-clause-queue
returns-clause-queue c =
    let a = c.args in
    let i = c.self.inside in
    let l = c.enter_on-looked in
    enter_queued a.self.now i.kept l.new.kept i.queue l.new.queue i.held.items i.ears i.excluded a.by.number a.who a.call.now l.result c.self.view_is l.ensures.looks
