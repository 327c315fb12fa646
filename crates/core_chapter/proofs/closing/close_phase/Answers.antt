use Rattle.std.proofs.Common.{sym, subst}
use Rattle.domain_spec.specs.declared.open.OpenOperation.{OpenOperation}
use Rattle.core_dispatch.specs.Fits.{FitsPhase}
use Rattle.core_chapter.proofs.Closed.{shown_fits}
use Rattle.core_chapter.proofs.closing.close_phase.Goals as goal

pub finish_phase-outcome-requires-clause-parts : goal.finish_phase-outcome-requires-clause-parts
finish_phase-outcome-requires-clause-parts c =
    let a = c.args in
    shown_fits a.parts a.state.now c.shown.result.now a.operation.now.number
    (subst (λ (o : OpenOperation). FitsPhase a.parts a.state.now o) (sym c.shown.ensures) c.requires.parts)
