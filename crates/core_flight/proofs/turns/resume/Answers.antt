use Rattle.std.proofs.Common.{◌≡◌, ℕ, false, Some, refl, sym, ap, ◌∙◌, subst}
use Rattle.domain_spec.specs.Types.{Ask}
use Rattle.core_rules.specs.declared.next.Next.TheVariants as next
use Rattle.core_plan.specs.Along.{Asked, answered}
use Rattle.core_plan.specs.Starving.{AreAsks, next_in, starved}
use Rattle.core_plan.specs.AwayLaws.{made}
use Rattle.core_chapter.specs.Closing.{CanDo}
use Rattle.core_flight.specs.Away.{IsOut}
use Rattle.core_flight.specs.Turn.{CanGoOn, force_in, is_over, shown}
use Rattle.core_flight.proofs.Histories.{asks_on, can_end, can_go_on, closes, stays_out, turns_to, waits}
use Rattle.core_flight.specs.declared.out.Out.TheVariants as gone
use Rattle.core_flight.proofs.turns.resume.Goals as goal

pub answer-requires : goal.answer-requires
answer-requires c = let s = force_in c.args.chapter.now in waits s s.job c.args.away c.requires.out

pub close-requires-clause-can : goal.close-requires-clause-can
close-requires-clause-can c =
    let a = c.args in
    let s = force_in a.chapter.now in
    subst (λ (x : Asked). CanDo s s.job a.away.parts a.by (made x) x.answers) (sym c.answer.ensures)
    (can_end s a.away a.by a.answer c.requires.lost c.requires.out c.requires.may (sym c.is_over.ensures ∙ c.if-is_over.true))

pub go_on-requires-clause-can : goal.go_on-requires-clause-can
go_on-requires-clause-can c =
    let a = c.args in
    let s = force_in a.chapter.now in
    subst (λ (x : Asked). CanGoOn s a.away.parts a.by x) (sym c.answer.ensures)
    (can_go_on s a.away a.by a.answer c.requires.lost c.requires.out c.requires.may (sym c.is_over.ensures ∙ c.if-is_over.false))

pub returns-then-is_over-clause-turn : goal.returns-then-is_over-clause-turn
returns-then-is_over-clause-turn c =
    let a = c.args in
    let s = force_in a.chapter.now in
    let can =
    subst (λ (x : Asked). CanDo s s.job a.away.parts a.by (made x) x.answers) (sym c.answer.ensures)
    (can_end s a.away a.by a.answer c.requires.lost c.requires.out c.requires.may (sym c.is_over.ensures ∙ c.if-is_over.true)) in (
      0,
      closes a.chapter.now c.close.new.chapter (shown a.chapter.now) a.away.parts a.by a.by.number c.answer.new.self (answered a.away.course a.answer) c.close.result can
          c.close.ensures.history c.close.ensures.told refl refl c.answer.ensures,
    )

pub returns-else-is_over-clause-turn : goal.returns-else-is_over-clause-turn
returns-else-is_over-clause-turn c =
    let a = c.args in
    let s = force_in a.chapter.now in
    let over : is_over s s.job ≡ false = sym c.is_over.ensures ∙ c.if-is_over.false in
    let can =
    subst (λ (x : Asked). CanGoOn s a.away.parts a.by x) (sym c.answer.ensures)
    (can_go_on s a.away a.by a.answer c.requires.lost c.requires.out c.requires.may over) in
    let out =
    subst (λ (x : Asked). (count : ℕ) (y : Ask) → AreAsks count x → next_in (starved count x) ≡ next.Ask y → IsOut s s.job (Some (gone.Call (record a.away { course = starved count x })))) (sym c.answer.ensures)
    (stays_out s a.away a.by.number a.answer c.requires.out c.requires.may over) in
    turns_to a.chapter.now c.go_on.new.chapter (shown a.chapter.now) a.by a.by.number (record a.away { course = c.answer.new.self }) c.go_on.result
    (λ (count : ℕ). starved count (answered a.away.course a.answer)) can out refl refl (λ (count : ℕ). ap (λ (x : Asked). starved count x) c.answer.ensures) c.go_on.ensures.turn

pub returns-else-is_over-clause-stays : goal.returns-else-is_over-clause-stays
returns-else-is_over-clause-stays c =
    let a = c.args in
    asks_on a.chapter.now c.go_on.new.chapter a.by (record a.away { course = c.answer.new.self }) c.go_on.result c.go_on.ensures.turn
