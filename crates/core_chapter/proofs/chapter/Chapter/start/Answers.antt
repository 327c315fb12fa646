use Rattle.std.proofs.Common.{◌≡◌, ℕ, Option, Some, sym, ap, ◌∙◌, subst}
use Rattle.domain_spec.specs.Types.{Call, Phase, State}
use Rattle.domain_spec.specs.declared.mark.Mark.TheVariants as mark
use Rattle.domain_spec.specs.declared.open.OpenOperation.{OpenOperation}
use Rattle.domain_spec.specs.declared.step.Outcome.TheVariants as outcome
use Rattle.domain_spec.specs.Begin.{due_phase, named_call}
use Rattle.domain_spec.specs.Legal.{IsLawful}
use Rattle.domain_spec.specs.Reading.{live_boot}
use Rattle.core_chapter.specs.Standing.{HistoryWithRoom, in_force}
use Rattle.core_chapter.proofs.Standing.{starts}
use Rattle.core_chapter.proofs.chapter.Chapter.start.Goals as goal

pub invariant_of-self-2 : goal.invariant_of-self-2
invariant_of-self-2 c =
    let a = c.args in
    let i = c.self.inside in
    let t = c.begin.new.state in
    let begun : ℕ → Call → Option ℕ → Phase → Option OpenOperation = λ n call boot p. Some (record { number = n; who = a.who; call = call; boot = boot; outcome = outcome.On p }) in
    let named : a.named ≡ named_call i.state a.call =
    subst (λ (v : HistoryWithRoom). a.named ≡ named_call (in_force v.history.base v.history.marks).state a.call) (sym c.self.view_is) c.requires.named
    ∙ ap (λ (s : State). named_call s a.call) c.self.invariant.state in
    let is_begun : c.set.new.operation ≡ begun a.by.number (named_call i.state a.call) (live_boot t) (due_phase t) =
    c.set.ensures ∙ ap (λ (o : OpenOperation). Some o) c.begun-begun.ensures
    ∙ ap (λ (n : ℕ). begun n a.named c.live_boot.result c.due_phase.result) c.again.ensures
    ∙ ap (λ (call : Call). begun a.by.number call c.live_boot.result c.due_phase.result) named
    ∙ ap (λ (boot : Option ℕ). begun a.by.number (named_call i.state a.call) boot c.due_phase.result) c.live_boot.ensures
    ∙ ap (λ (p : Phase). begun a.by.number (named_call i.state a.call) (live_boot t) p) c.due_phase.ensures in
    starts i.base i.marks.list c.push.new.self.list i.state t i.job c.close.new.job i.operation c.set.new.operation a.by a.who a.call a.boot c.self.invariant
    (subst (λ (v : HistoryWithRoom). IsLawful (in_force v.history.base v.history.marks) (mark.Start a.by.number a.who a.call a.boot)) (sym c.self.view_is) c.requires.lawful)
    c.in_ok-begin.ensures.ok c.close.ensures is_begun c.push.ensures.list
