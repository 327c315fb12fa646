use Rattle.std.proofs.Common.{◌≡◌, List, sym, ap, ◌∙◌, subst}
use Rattle.domain_spec.specs.Types.{State, Transition}
use Rattle.domain_spec.specs.declared.mark.Mark.TheVariants as mark
use Rattle.domain_spec.specs.Exit.{event_transitions}
use Rattle.domain_spec.specs.Legal.{IsLawful}
use Rattle.core_chapter.specs.Standing.{HistoryWithRoom, in_force}
use Rattle.core_chapter.proofs.Standing.{follows}
use Rattle.core_chapter.proofs.chapter.Chapter.event.Goals as goal

pub invariant_of-self : goal.invariant_of-self
invariant_of-self c =
    let a = c.args in
    let i = c.self.inside in
    let now = in_force i.base i.marks.list in
    let told : event_transitions now.state a.event ≡ c.follow-transitions.result =
    ap (λ (s : State). event_transitions s a.event) c.self.invariant.state ∙ sym c.follow-transitions.ensures.told in
    follows i.base i.marks.list c.push.new.self.list i.state c.follow-transitions.new.state i.job i.operation a.boot a.event c.follow-transitions.result c.self.invariant
    (subst (λ (events : List Transition). IsLawful now (mark.Event a.boot a.event events)) told
    (subst (λ (v : HistoryWithRoom). let s = in_force v.history.base v.history.marks in IsLawful s (mark.Event a.boot a.event (event_transitions s.state a.event))) (sym c.self.view_is) c.requires.lawful))
    c.follow-transitions.ensures.state c.push.ensures.list
