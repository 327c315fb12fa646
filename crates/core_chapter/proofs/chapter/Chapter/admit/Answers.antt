use Rattle.std.proofs.Common.{◌≡◌, ℕ, List, [], ◌∷◌, ◌++◌, None, Option, Some, sym, ap, ◌∙◌, subst}
use Rattle.history_spec.specs.declared.stamp.Stamp.{Stamp}
use Rattle.domain_spec.specs.Types.{Call}
use Rattle.domain_spec.specs.declared.mark.Mark.{Mark}
use Rattle.domain_spec.specs.declared.mark.Mark.TheVariants as mark
use Rattle.domain_spec.specs.declared.open.OpenJob.{OpenJob}
use Rattle.domain_spec.specs.Legal.{IsLawful}
use Rattle.core_chapter.specs.Standing.{HistoryWithRoom, in_force}
use Rattle.core_chapter.proofs.Standing.{admits}
use Rattle.core_chapter.proofs.chapter.Chapter.admit.Goals as goal

pub invariant_of-self : goal.invariant_of-self
invariant_of-self c =
    let a = c.args in
    let i = c.self.inside in
    let open_as : ℕ → Option OpenJob = λ n. Some (record { number = n; who = a.who; job = a.job; call = a.call; boot = a.boot; before = None }) in
    admits i.base i.marks.list c.push.new.self.list i.state i.job (Some c.now.result) i.operation a.by a.who a.job a.call a.boot c.self.invariant
    (subst (λ (v : HistoryWithRoom). IsLawful (in_force v.history.base v.history.marks) (mark.Admit a.by.number a.who a.job a.call a.boot)) (sym c.self.view_is) c.requires.lawful)
    (ap (λ (j : OpenJob). Some j) c.now.ensures ∙ ap open_as c.again.ensures)
    (c.push.ensures.list ∙ ap (λ (call : Call). i.marks.list ++ mark.Admit a.by a.who a.job call a.boot ∷ []) c.requires.same)
