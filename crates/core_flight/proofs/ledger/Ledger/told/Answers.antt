use Rattle.std.proofs.Common.{◌≡◌, ◌-◌, List, length, slice_get, ap, ◌∙◌, subst}
use Rattle.history_spec.specs.declared.stamp.Stamp.{Stamp}
use Rattle.domain_spec.specs.declared.mark.Mark.{Mark}
use Rattle.core_flight.specs.Ledger.{Ledgered}
use Rattle.core_flight.specs.Told.{told_last, told_of}
use Rattle.core_flight.proofs.Told.{told_at}
use Rattle.core_flight.proofs.ledger.Ledger.told.Goals as goal

pub returns-clause-told : goal.returns-clause-told
returns-clause-told c =
    subst (λ (v : Ledgered). c.told_by.result.now ≡ told_last v.history.marks) c.self.view_is
    (c.told_by.ensures
    ∙ ap (λ (ms : List (Mark Stamp)). told_of (slice_get ms (length ms - 1))) c.marks.ensures.marks
    ∙ told_at c.self.inside.chapter.history.marks)
