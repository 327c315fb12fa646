use Rattle.std.proofs.Common.{rules, ◌≡◌, ◌∙◌, ◌<◌, sym, ap, ℕ, List, get_or, set, length, map, arith}
use Rattle.event_queue.specs.Each.{HeardTo}
use Rattle.event_queue.specs.Listening.{Listening, cut_mark}
use Rattle.event_queue.proofs.Each.{heard_more, mark_cut, no_cut, said_of}
use Rattle.event_queue.proofs.listeners.hear_each.Goals as goal
use Rattle.event_queue.proofs.listeners.hear_each.Goals.{then-hear, else-hear}

pub loop-listener-preserved : goal.loop-listener-preserved
loop-listener-preserved c =
    let l = c.loop-listener in
    let d = c.listener-item.result in
    let within : l.listener-index < length c.deref_mut-listener-items.result.now = omega arith in
    let changed = ap (λ (x : Listening). set l.listener-items l.listener-index x) c.hear.ensures.registration in
    elim c.if-hear.branch [
      | then-hear w ↦ (
        heard_more c.args.events.now c.deref_mut-listener-items.result.now l.listener-items c.if-hear.listener-items _ _ _ l.listener-index d within l.invariant.0 (w.listener-items-is ∙ changed)
            (ap (λ v. map cut_mark v.items) w.cuts-is
            ∙ mark_cut l.cuts.items _ (get_or l.listener-items l.listener-index d) c.args.events.now w.cut.result (sym c.hear.ensures.answer ∙ w.if-hear.true) (w.cut.ensures ∙ ap said_of c.hear.ensures.registration) w.push_reserved.ensures.items),
        search rules,
        search rules,
      )
      | else-hear w ↦ (
        heard_more c.args.events.now c.deref_mut-listener-items.result.now l.listener-items c.if-hear.listener-items _ _ _ l.listener-index d within l.invariant.0 (w.listener-items-is ∙ changed)
            (ap (λ v. map cut_mark v.items) w.cuts-is ∙ no_cut l.cuts.items (get_or l.listener-items l.listener-index d) c.args.events.now (sym c.hear.ensures.answer ∙ w.if-hear.false)),
        search rules,
        search rules,
      )
    ]
