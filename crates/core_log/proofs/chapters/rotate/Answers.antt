use Rattle.std.proofs.Common.{◌≡◌, ◌+◌, ◌≤◌, List, [], length, ap, ◌∙◌, subst}
use Rattle.std.specs.Prelude.{OnOk}
use Rattle.core_flight.specs.Ledger.{now_in}
use Rattle.event_queue.specs.Listening.{Listening, registrations}
use Rattle.domain_spec.specs.Chapter.{next_base}
use Rattle.domain_spec.specs.declared.standing.Registration.{Registration}
use Rattle.core_log.proofs.NextChapter.{enough, held_rotated}
use Rattle.core_log.proofs.chapters.rotate.Goals as goal

pub returns-in-Ok-clause-room : goal.returns-in-Ok-clause-room
returns-in-Ok-clause-room c =
    enough c.rotate.new.self c.args.listeners.now.listeners c.args.room c.rotate.result
    (subst (λ (ls : List Listening). OnOk c.rotate.result (c.args.room + length ls ≤ c.rotate.new.self.spare)) c.as_slice-all.ensures c.rotate.ensures.room)

pub returns-in-Ok-clause-held : goal.returns-in-Ok-clause-held
returns-in-Ok-clause-held c =
    let a = c.args in
    held_rotated a.ledger.now c.rotate.new.self a.listeners.now.listeners (a.ledger.now.history.chapter + 1) (now_in a.ledger.now) a.room c.rotate.result c.requires.held
    (subst (λ (rs : List Registration). OnOk c.rotate.result (c.rotate.new.self.history ≡ record { chapter = a.ledger.now.history.chapter + 1; base = next_base (now_in a.ledger.now) rs; marks = [] }))
    (c.in-Ok.ensures ∙ ap registrations c.as_slice-all.ensures) c.rotate.ensures.history)
    (subst (λ (ls : List Listening). OnOk c.rotate.result (a.room + length ls ≤ c.rotate.new.self.spare)) c.as_slice-all.ensures c.rotate.ensures.room)
    c.rotate.ensures.err
