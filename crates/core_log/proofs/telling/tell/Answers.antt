use Rattle.std.proofs.Common.{List, map, ◌∙◌, ap, sym, subst}
use Rattle.domain_spec.specs.Types.{Transition}
use Rattle.domain_spec.specs.Legal.{IsLegal}
use Rattle.core_flight.specs.Ledger.{standing_in, with_marks}
use Rattle.core_flight.specs.Told.{told_last}
use Rattle.event_queue.specs.Listening.{Registered, hears, registrations}
use Rattle.core_log.specs.Record.{cuts_after}
use Rattle.core_log.proofs.Counting.{due_fits, spare_told}
use Rattle.core_log.proofs.telling.tell.Goals as goal

pub cut_all-requires-clause-room : goal.cut_all-requires-clause-room
cut_all-requires-clause-room c =
    let a = c.args in
    let rs = registrations a.listeners.now.listeners in
    due_fits c.due.result.now rs (told_last a.ledger.now.history.marks) a.ledger.now.spare
    (c.due.ensures ∙ ap (λ (r : Registered). r.due) c.hear.ensures ∙ ap (λ (ts : List Transition). cuts_after rs ts) c.told.ensures.told) c.requires.ends

pub cut_all-requires-clause-legal : goal.cut_all-requires-clause-legal
cut_all-requires-clause-legal c =
    let a = c.args in
    let rs = registrations a.listeners.now.listeners in
    subst (λ ms. IsLegal (standing_in a.ledger.now.history) ms)
    (sym (c.due.ensures ∙ ap (λ (r : Registered). r.due) c.hear.ensures ∙ ap (λ (ts : List Transition). cuts_after rs ts) c.told.ensures.told)) c.requires.legal

pub returns-clause-history : goal.returns-clause-history
returns-clause-history c =
    let a = c.args in
    let rs = registrations a.listeners.now.listeners in
    c.cut_all.ensures.history
    ∙ ap (λ ms. with_marks a.ledger.now.history ms)
    (c.due.ensures ∙ ap (λ (r : Registered). r.due) c.hear.ensures ∙ ap (λ (ts : List Transition). cuts_after rs ts) c.told.ensures.told)

pub returns-clause-listeners : goal.returns-clause-listeners
returns-clause-listeners c =
    ap (λ (r : Registered). r.listeners) c.hear.ensures ∙ ap (λ (ts : List Transition). map (hears ts) c.args.listeners.now.listeners) c.told.ensures.told

pub returns-clause-spare : goal.returns-clause-spare
returns-clause-spare c =
    let a = c.args in
    let rs = registrations a.listeners.now.listeners in
    spare_told c.due.result.now a.listeners.now.listeners c.hear.new.self.listeners (told_last a.ledger.now.history.marks) a.ledger.now.spare c.cut_all.new.ledger.spare
    (c.due.ensures ∙ ap (λ (r : Registered). r.due) c.hear.ensures ∙ ap (λ (ts : List Transition). cuts_after rs ts) c.told.ensures.told)
    (ap (λ (r : Registered). r.listeners) c.hear.ensures ∙ ap (λ (ts : List Transition). map (hears ts) a.listeners.now.listeners) c.told.ensures.told)
    c.cut_all.ensures.spare
