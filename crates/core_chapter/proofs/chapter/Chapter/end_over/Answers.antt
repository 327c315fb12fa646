use Rattle.std.proofs.Common.{◌≡◌, List, [], ◌∷◌, ◌++◌, Option, sym, ap, ◌∙◌, subst}
use Rattle.history_spec.specs.declared.stamp.Stamp.{Stamp}
use Rattle.domain_spec.specs.Types.{Reply}
use Rattle.domain_spec.specs.declared.mark.Mark.{Mark}
use Rattle.domain_spec.specs.declared.mark.Mark.TheVariants as mark
use Rattle.domain_spec.specs.declared.open.OpenOperation.{OpenOperation}
use Rattle.domain_spec.specs.Legal.{IsLawful}
use Rattle.core_chapter.specs.Closing.{reply_in}
use Rattle.core_chapter.specs.Standing.{HistoryWithRoom, in_force}
use Rattle.core_chapter.proofs.Standing.{ends}
use Rattle.core_chapter.proofs.chapter.Chapter.end_over.Goals as goal

pub invariant_of-self : goal.invariant_of-self
invariant_of-self c =
    let a = c.args in
    let i = c.self.inside in
    let told : reply_in (in_force i.base i.marks.list).operation ≡ c.take_reply-reply.result =
    ap (λ (o : Option OpenOperation). reply_in o) c.self.invariant.operation ∙ sym c.take_reply-reply.ensures.reply in
    ends i.base i.marks.list c.push.new.self.list i.state c.end_operation.new.state i.job i.operation c.take_reply-reply.new.operation a.by a.who c.take_reply-reply.result c.self.invariant
    (subst (λ (r : Reply). IsLawful (in_force i.base i.marks.list) (mark.End a.by.number a.who r)) told
    (subst (λ (v : HistoryWithRoom). let s = in_force v.history.base v.history.marks in IsLawful s (mark.End a.by.number a.who (reply_in s.operation))) (sym c.self.view_is) c.requires.lawful))
    c.end_operation.ensures c.take_reply-reply.ensures.none c.push.ensures.list

pub returns-clause-history : goal.returns-clause-history
returns-clause-history c =
    let a = c.args in
    let i = c.self.inside in
    let told : c.take_reply-reply.result ≡ reply_in (in_force i.base i.marks.list).operation =
    c.take_reply-reply.ensures.reply ∙ sym (ap (λ (o : Option OpenOperation). reply_in o) c.self.invariant.operation) in
    subst (λ (v : HistoryWithRoom). record { chapter = i.chapter; base = i.base; marks = c.push.new.self.list } ≡ record v.history { marks = v.history.marks ++ mark.End a.by a.who (reply_in (in_force v.history.base v.history.marks).operation) ∷ [] }) c.self.view_is
    (ap (λ (ms : List (Mark Stamp)). record { chapter = i.chapter; base = i.base; marks = ms })
    (c.push.ensures.list ∙ ap (λ (r : Reply). i.marks.list ++ mark.End a.by a.who r ∷ []) told))
