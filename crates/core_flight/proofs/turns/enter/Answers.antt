use Rattle.std.proofs.Common.{ℕ, sym, subst}
use Rattle.domain_spec.specs.Types.{Call}
use Rattle.domain_spec.specs.declared.mark.Mark.TheVariants as mark
use Rattle.domain_spec.specs.Legal.{IsLawful}
use Rattle.core_flight.specs.Turn.{force_in}
use Rattle.core_flight.proofs.Entering.{entered_can, entered_turns, is_entered}
use Rattle.core_flight.proofs.turns.enter.Goals as goal

pub admit-requires-clause-lawful : goal.admit-requires-clause-lawful
admit-requires-clause-lawful c =
    let a = c.args in
    let s = force_in a.chapter.now in
    subst (λ (n : ℕ). IsLawful s (mark.Admit n a.who c.job_of.result a.ready.own a.boot)) (sym c.again.ensures)
    (subst (λ (x : Call). IsLawful s (mark.Admit a.by.number a.who c.job_of.result x a.boot)) (sym c.requires.ready.own)
    (rw c.job_of.ensures c.requires.lawful))

pub go_on-requires-clause-can : goal.go_on-requires-clause-can
go_on-requires-clause-can c =
    let a = c.args in
    entered_can a.chapter.now c.admit.new.self a.by c.again.result a.who c.job_of.result a.call.now a.boot a.ready
    (is_entered a.chapter.now c.admit.new.self a.by c.again.result a.who c.job_of.result a.call.now a.boot a.ready c.requires.begins c.requires.takes c.requires.lost c.requires.lawful c.requires.ready
    c.again.ensures c.job_of.ensures c.admit.ensures.history)

pub returns-clause-turn : goal.returns-clause-turn
returns-clause-turn c =
    let a = c.args in
    entered_turns a.chapter.now c.admit.new.self c.go_on.new.chapter a.by c.again.result a.who c.job_of.result a.call.now a.boot a.ready c.go_on.result
    (is_entered a.chapter.now c.admit.new.self a.by c.again.result a.who c.job_of.result a.call.now a.boot a.ready c.requires.begins c.requires.takes c.requires.lost c.requires.lawful c.requires.ready
    c.again.ensures c.job_of.ensures c.admit.ensures.history)
    c.go_on.ensures.turn
