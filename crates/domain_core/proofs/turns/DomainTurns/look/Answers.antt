use Rattle.std.specs.Vec.{vec_capacity, vec_len}
use Rattle.domain_core.proofs.Parts.{look_goes, look_may}
use Rattle.domain_spec.specs.Reading.{live_boot}
use Rattle.core_steps.specs.OfRecord.{force_of}
use Rattle.core_steps.specs.Looking.{boot_first}
use Rattle.domain_core.proofs.Others.{look_others}
use Rattle.domain_core.proofs.Queued.{look_queued}
use Rattle.domain_core.proofs.turns.DomainTurns.look.Goals as goal

pub look_on-looked-requires-clause-lawful : goal.look_on-looked-requires-clause-lawful
look_on-looked-requires-clause-lawful c =
    let a = c.args in
    let i = c.self.inside in
    λ may. look_may a.self.now i.kept i.queue i.held.items i.ears i.excluded (vec_len i.rooms) (vec_capacity i.held) a.by.number a.who a.call.now a.first c.self.view_is c.self.invariant c.requires.can c.requires.known c.facts.ensures.lost may

pub returns-clause-looks : goal.returns-clause-looks
returns-clause-looks c =
    let a = c.args in
    let i = c.self.inside in
    look_goes a.self.now i.kept c.look_on-looked.new.kept i.queue c.look_on-looked.new.queue i.held.items i.ears i.excluded (vec_len i.rooms) (vec_capacity i.held) a.by.number a.who a.call.now a.first c.look_on-looked.result
    c.self.view_is c.self.invariant c.requires.can c.requires.known c.facts.ensures.lost c.facts.ensures.waits c.facts.ensures.room c.facts-2.ensures.lost c.facts-2.ensures.waits c.look_on-looked.ensures.looks

pub returns-clause-others : goal.returns-clause-others
returns-clause-others c =
    let a = c.args in
    let i = c.self.inside in
    let l = c.look_on-looked in
    look_others a.self.now i.kept l.new.kept i.queue l.new.queue i.held.items i.ears i.excluded a.by.number a.who a.call.now a.first (boot_first a.first (live_boot (force_of i.kept).state)) l.result
    c.self.view_is (returns-clause-looks c) l.ensures.looks c.facts.ensures.apart c.facts.ensures.waits c.facts-2.ensures.waits

pub returns-clause-queue : goal.returns-clause-queue
returns-clause-queue c =
    let a = c.args in
    let i = c.self.inside in
    let l = c.look_on-looked in
    look_queued a.self.now i.kept l.new.kept i.queue l.new.queue i.held.items i.ears i.excluded a.by.number a.who a.call.now (boot_first a.first (live_boot (force_of i.kept).state)) l.result c.self.view_is l.ensures.looks
