use Rattle.std.proofs.Common.{◌≡◌, ℕ, List, [], ◌∷◌, ◌++◌, Option, option_map, sym, ap, ◌∙◌, subst}
use Rattle.domain_spec.specs.Types.{Call}
use Rattle.domain_spec.specs.declared.mark.Mark.TheVariants as mark
use Rattle.domain_spec.specs.Fold.{taken_up}
use Rattle.domain_spec.specs.Legal.{IsLawful}
use Rattle.core_chapter.specs.Standing.{HistoryWithRoom, in_force}
use Rattle.core_chapter.proofs.Standing.{takes_over}
use Rattle.core_chapter.proofs.chapter.Chapter.take_up.Goals as goal

pub invariant_of-self : goal.invariant_of-self
invariant_of-self c =
    let a = c.args in
    let i = c.self.inside in
    takes_over i.base i.marks.list c.push.new.self.list i.state c.take_over.new.state i.job c.take_over.new.job i.operation c.take_over.new.operation a.by a.who a.call c.self.invariant
    (subst (λ (v : HistoryWithRoom). IsLawful (in_force v.history.base v.history.marks) (mark.TakeUp a.by.number a.who a.call)) (sym c.self.view_is) c.requires.lawful)
    c.take_over.ensures.state c.take_over.ensures.job
    (c.take_over.ensures.operation ∙ ap (λ (n : ℕ). option_map (taken_up n a.who a.call) i.operation) c.again.ensures)
    (c.push.ensures.list ∙ ap (λ (call : Call). i.marks.list ++ mark.TakeUp a.by a.who call ∷ []) c.requires.same)
