use Rattle.std.proofs.Common.{◌≡◌, ℕ, true, List, [], ◌∷◌, ◌++◌, None, Option, Some, append_assoc, refl, sym, ap, ◌∙◌, subst}
use Rattle.history_spec.specs.declared.stamp.Stamp.{Stamp}
use Rattle.domain_spec.specs.Types.{Call, Phase, State}
use Rattle.domain_spec.specs.declared.mark.Mark.{Mark}
use Rattle.domain_spec.specs.declared.mark.Mark.TheVariants as mark
use Rattle.domain_spec.specs.declared.open.OpenJob.{OpenJob}
use Rattle.domain_spec.specs.declared.open.OpenOperation.{OpenOperation}
use Rattle.domain_spec.specs.declared.standing.Standing.{Standing}
use Rattle.domain_spec.specs.declared.step.Outcome.TheVariants as outcome
use Rattle.domain_spec.specs.Begin.{due_phase, named_call}
use Rattle.domain_spec.specs.Fold.{after}
use Rattle.domain_spec.specs.Legal.{IsLawful}
use Rattle.domain_spec.specs.Reading.{live_boot}
use Rattle.domain_spec.specs.Sequential.{goes_on_as_operation}
use Rattle.core_chapter.specs.Standing.{HistoryWithRoom, in_force}
use Rattle.core_chapter.proofs.Numbers.{has_number}
use Rattle.core_chapter.proofs.Standing.{admits, one_more, starts}
use Rattle.core_chapter.proofs.chapter.Chapter.begin.Goals as goal

pub begin-requires : goal.begin-requires
begin-requires c =
    let a = c.args in
    let i = c.self.inside in
    let goes : goes_on_as_operation (in_force i.base i.marks.list).state a.call.now a.boot ≡ true =
    subst (λ (v : HistoryWithRoom). goes_on_as_operation (in_force v.history.base v.history.marks).state a.call.now a.boot ≡ true) (sym c.self.view_is) c.requires.starts.in_order.begins in
    has_number i.state a.call.now a.boot (subst (λ (s : State). goes_on_as_operation s a.call.now a.boot ≡ true) c.self.invariant.state goes)

pub invariant_of-self-2 : goal.invariant_of-self-2
invariant_of-self-2 c =
    let a = c.args in
    let i = c.self.inside in
    let t = c.begin.new.state in
    let admit : Mark Stamp = mark.Admit a.first a.who a.job a.call.now a.boot in
    let start : Mark Stamp = mark.Start a.by a.who a.call.now a.boot in
    let mid : List (Mark Stamp) = i.marks.list ++ admit ∷ [] in
    let j : OpenJob = record { number = a.first.number; who = a.who; job = a.job; call = a.call.now; boot = a.boot; before = None } in
    let lawful : IsLawful (in_force i.base i.marks.list) (mark.Admit a.first.number a.who a.job a.call.now a.boot) =
    subst (λ (v : HistoryWithRoom). IsLawful (in_force v.history.base v.history.marks) (mark.Admit a.first.number a.who a.job a.call.now a.boot)) (sym c.self.view_is) c.requires.lawful in
    let lawful_start : IsLawful (in_force i.base mid) (mark.Start a.by.number a.who a.call.now a.boot) =
    subst (λ (s : Standing). IsLawful s (mark.Start a.by.number a.who a.call.now a.boot)) (sym (one_more i.base i.marks.list admit))
    (subst (λ (v : HistoryWithRoom). IsLawful (after (in_force v.history.base v.history.marks) (mark.Admit a.first.number a.who a.job a.call.now a.boot)) (mark.Start a.by.number a.who a.call.now a.boot)) (sym c.self.view_is) c.requires.starts) in
    let stands = admits i.base i.marks.list mid i.state i.job (Some j) i.operation a.first a.who a.job a.call.now a.boot c.self.invariant lawful refl refl in
    let begun : ℕ → Call → Option ℕ → Phase → Option OpenOperation = λ n call boot p. Some (record { number = n; who = a.who; call = call; boot = boot; outcome = outcome.On p }) in
    let is_begun : c.set.new.operation ≡ begun a.by.number (named_call i.state a.call.now) (live_boot t) (due_phase t) =
    c.set.ensures ∙ ap (λ (o : OpenOperation). Some o) c.begun-begun.ensures
    ∙ ap (λ (n : ℕ). begun n c.in_ok-named.named c.live_boot.result c.due_phase.result) c.again.ensures
    ∙ ap (λ (call : Call). begun a.by.number call c.live_boot.result c.due_phase.result) c.in_ok-named.ensures.named
    ∙ ap (λ (boot : Option ℕ). begun a.by.number (named_call i.state a.call.now) boot c.due_phase.result) c.live_boot.ensures
    ∙ ap (λ (p : Phase). begun a.by.number (named_call i.state a.call.now) (live_boot t) p) c.due_phase.ensures in
    let left : c.push-2.new.self.list ≡ mid ++ start ∷ [] =
    c.push-2.ensures.list
    ∙ ap (λ (ms : List (Mark Stamp)). ms ++ mark.Start a.by a.who c.in_ok-named.in_start a.boot ∷ []) c.push.ensures.list
    ∙ ap (λ (x : Call). (i.marks.list ++ mark.Admit a.first a.who a.job x a.boot ∷ []) ++ mark.Start a.by a.who c.in_ok-named.in_start a.boot ∷ []) c.in_ok-named.ensures.in_admit
    ∙ ap (λ (x : Call). mid ++ mark.Start a.by a.who x a.boot ∷ []) c.in_ok-named.ensures.in_start in
    starts i.base mid c.push-2.new.self.list i.state t (Some j) c.close.new.job i.operation c.set.new.operation a.by a.who a.call.now a.boot stands lawful_start
    c.in_ok-begin.ensures.ok c.close.ensures is_begun left

pub returns-clause-history : goal.returns-clause-history
returns-clause-history c =
    let a = c.args in
    let i = c.self.inside in
    let admit : Mark Stamp = mark.Admit a.first a.who a.job a.call.now a.boot in
    let start : Mark Stamp = mark.Start a.by a.who a.call.now a.boot in
    let left : c.push-2.new.self.list ≡ i.marks.list ++ admit ∷ start ∷ [] =
    c.push-2.ensures.list
    ∙ ap (λ (ms : List (Mark Stamp)). ms ++ mark.Start a.by a.who c.in_ok-named.in_start a.boot ∷ []) c.push.ensures.list
    ∙ ap (λ (x : Call). (i.marks.list ++ mark.Admit a.first a.who a.job x a.boot ∷ []) ++ mark.Start a.by a.who c.in_ok-named.in_start a.boot ∷ []) c.in_ok-named.ensures.in_admit
    ∙ ap (λ (x : Call). (i.marks.list ++ admit ∷ []) ++ mark.Start a.by a.who x a.boot ∷ []) c.in_ok-named.ensures.in_start
    ∙ append_assoc i.marks.list (admit ∷ []) (start ∷ []) in
    subst (λ (v : HistoryWithRoom). record { chapter = i.chapter; base = i.base; marks = c.push-2.new.self.list } ≡ record v.history { marks = v.history.marks ++ admit ∷ start ∷ [] }) c.self.view_is
    (ap (λ (ms : List (Mark Stamp)). record { chapter = i.chapter; base = i.base; marks = ms }) left)
