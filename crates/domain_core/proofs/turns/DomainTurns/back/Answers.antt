use Rattle.std.proofs.Common.{◌≤◌, ◌+◌, ℕ, List, length, None, sym, subst}
use Rattle.std.specs.Vec.{vec_capacity, vec_len}
use Rattle.domain_spec.specs.CanTake.{CanTake}
use Rattle.domain_spec.specs.Cell.{HeldEvent}
use Rattle.domain_spec.specs.declared.core_step.CoreStep.TheVariants as step
use Rattle.domain_core.specs.Core.{Core, IsWhole}
use Rattle.domain_core.proofs.LastAsk.{may_back}
use Rattle.domain_core.proofs.Parts.{back_goes, back_numbered, back_room}
use Rattle.domain_core.proofs.Whole.{back_keeps, back_turn, marks_away}
use Rattle.core_steps.specs.OfRecord.{force_of}
use Rattle.core_steps.specs.Answering.{Answers, GoesBack, LeavesRooms, held_after}
use Rattle.core_steps.specs.Turning.{turning}
use Rattle.domain_core.proofs.Others.{back_others}
use Rattle.domain_core.proofs.turns.DomainTurns.back.Goals as goal

pub back-left-requires-clause-away : goal.back-left-requires-clause-away
back-left-requires-clause-away c =
    let a = c.args in
    let i = c.self.inside in
    back_numbered a.self.now i.kept i.queue i.held.items i.ears i.excluded a.by.number a.answer c.self.view_is c.requires.can

pub back-left-requires-clause-may : goal.back-left-requires-clause-may
back-left-requires-clause-may c =
    let a = c.args in
    let i = c.self.inside in
    may_back a.self.now i.kept i.queue i.held.items i.ears i.excluded a.answer c.self.view_is c.facts.ensures.waits c.requires.may

pub back-left-requires-clause-marks : goal.back-left-requires-clause-marks
back-left-requires-clause-marks c =
    let a = c.args in
    let i = c.self.inside in
    let may = may_back a.self.now i.kept i.queue i.held.items i.ears i.excluded a.answer c.self.view_is c.facts.ensures.waits c.requires.may in
    (back_room i.kept i.queue i.held.items i.ears i.excluded (vec_len i.rooms) (vec_capacity i.held) a.answer c.self.invariant may).0

pub back-left-requires-clause-rooms : goal.back-left-requires-clause-rooms
back-left-requires-clause-rooms c =
    let a = c.args in
    let i = c.self.inside in
    let may = may_back a.self.now i.kept i.queue i.held.items i.ears i.excluded a.answer c.self.view_is c.facts.ensures.waits c.requires.may in
    subst (λ (hs : List HeldEvent). length hs + 1 ≤ vec_len i.rooms) (sym c.as_slice.ensures.value)
    (back_room i.kept i.queue i.held.items i.ears i.excluded (vec_len i.rooms) (vec_capacity i.held) a.answer c.self.invariant may).1

pub invariant_of-self : goal.invariant_of-self
invariant_of-self c =
    let a = c.args in
    let i = c.self.inside in
    let left = c.back-left.result in
    let new = c.back-left.new.kept in
    let rooms = vec_len i.rooms in
    let more = vec_len c.back-left.new.rooms in
    let answers = subst (λ (hs : List HeldEvent). Answers a.by.number i.kept.course a.answer hs i.kept new left) c.as_slice.ensures.value c.back-left.ensures.answers in
    let leaves = subst (λ (hs : List HeldEvent). LeavesRooms left hs rooms more) c.as_slice.ensures.value c.back-left.ensures.left in
    let can = subst (λ (v : Core). CanTake v.turning.cell (step.Back a.by.number a.answer)) (sym c.self.view_is) c.requires.can in
    let goes =
    back_turn i.kept new i.queue i.held.items i.ears a.by.number a.answer left can c.facts.ensures.lost c.facts.ensures.waits c.facts.ensures.room
    c.facts-2.ensures.lost c.facts-2.ensures.waits answers in
    let may = may_back a.self.now i.kept i.queue i.held.items i.ears i.excluded a.answer c.self.view_is c.facts.ensures.waits c.requires.may in
    let needs = marks_away (force_of i.kept) (force_of i.kept).job i.kept.course a.answer may in
    subst (λ (hs : List HeldEvent). IsWhole new i.queue hs i.ears None more (vec_capacity c.let_go.new.held)) (sym c.let_go.ensures.items)
    (subst (λ (n : ℕ). IsWhole new i.queue (held_after left i.held.items) i.ears None more n) (sym c.let_go.ensures.places)
    (back_keeps i.kept new i.queue i.held.items i.ears i.excluded rooms more (vec_capacity i.held) a.by.number a.answer left c.self.invariant needs goes answers leaves
    c.back-left.ensures.rooms c.back-left.ensures.balance))

pub returns-clause-back : goal.returns-clause-back
returns-clause-back c =
    let a = c.args in
    let i = c.self.inside in
    let left = c.back-left.result in
    let new = c.back-left.new.kept in
    let answers = subst (λ (hs : List HeldEvent). Answers a.by.number i.kept.course a.answer hs i.kept new left) c.as_slice.ensures.value c.back-left.ensures.answers in
    subst (λ (hs : List HeldEvent). GoesBack a.by.number a.answer a.self.now.turning (turning new i.queue hs i.ears) left) (sym c.let_go.ensures.items)
    (back_goes a.self.now i.kept new i.queue i.held.items i.ears i.excluded a.by.number a.answer left c.self.view_is c.requires.can
    c.facts.ensures.lost c.facts.ensures.waits c.facts.ensures.room c.facts-2.ensures.lost c.facts-2.ensures.waits answers)

pub returns-clause-others : goal.returns-clause-others
returns-clause-others c =
    let a = c.args in
    let i = c.self.inside in
    let own = back_numbered a.self.now i.kept i.queue i.held.items i.ears i.excluded a.by.number a.answer c.self.view_is c.requires.can in
    back_others a.self.now i.kept c.back-left.new.kept i.queue i.held.items c.let_go.new.held.items i.ears i.excluded a.by.number a.answer c.back-left.result c.self.view_is (returns-clause-back c) own
    c.facts.ensures.apart c.facts.ensures.waits c.facts-2.ensures.waits
