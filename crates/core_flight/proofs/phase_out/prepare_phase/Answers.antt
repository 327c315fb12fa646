use Rattle.std.proofs.Common.{sym, ◌∙◌}
use Rattle.core_flight.specs.Turn.{force_in}
use Rattle.core_flight.proofs.PhaseAnswers.{ready_in}
use Rattle.core_flight.proofs.phase_out.prepare_phase.Goals as goal

pub returns : goal.returns
returns c =
    let s = force_in c.args.chapter.now in
    ready_in s s.operation c.in-Some.operation c.shown.result.now c.state.result.now c.ready_for.result (sym c.operation.ensures.operation ∙ c.in-Some.is) c.state.ensures.state c.shown.ensures c.ready_for.ensures
