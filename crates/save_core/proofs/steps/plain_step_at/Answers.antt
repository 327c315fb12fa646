use Rattle.std.proofs.Common.{◌∙◌, option_map, ap, sym, arith}
use Rattle.domain_spec.specs.PhaseAsks.{live_phase_undo}
use Rattle.core_rules.specs.Next.{next_if}
use Rattle.save_core.specs.Steps.{ask_of}
use Rattle.save_core.proofs.Places.{step_not_undone, step_planned, step_undone}
use Rattle.save_core.proofs.steps.plain_step_at.Goals as goal

-- a planned ask
pub returns-in-Plan : goal.returns-in-Plan
returns-in-Plan c = λ answers.
    rw c.in-Plan.is
    (ap next_if
    (step_planned (ask_of c.args.domain.now c.args.live.now c.args.op.now c.args.call.now answers) c.plain_steps-steps.result.now
    (live_phase_undo c.args.live.now c.args.op.now c.args.phase) _ c.in-Plan.n (c.plain_steps-steps.ensures answers)
    ∙ ap (option_map (ask_of c.args.domain.now c.args.live.now c.args.op.now c.args.call.now answers)) (sym c.step_in.ensures)))

-- a step of its undo
pub returns-then-of-steps : goal.returns-then-of-steps
returns-then-of-steps c = λ answers.
    rw c.in-Undo.is
    (ap next_if
    (step_undone (ask_of c.args.domain.now c.args.live.now c.args.op.now c.args.call.now answers) c.plain_steps-steps.result.now c.plain_undo.result.now
    _ _ c.in-Undo.of c.in-Undo.step (c.plain_steps-steps.ensures answers) (c.plain_undo.ensures c.args.domain.now answers) (omega arith)
    ∙ ap (option_map (ask_of c.args.domain.now c.args.live.now c.args.op.now c.args.call.now answers)) (sym c.step_in-then-of-steps.ensures)))

-- there is no such ask
pub returns-else-of-steps : goal.returns-else-of-steps
returns-else-of-steps c = λ answers.
    rw c.in-Undo.is
    (ap next_if
    (step_not_undone (ask_of c.args.domain.now c.args.live.now c.args.op.now c.args.call.now answers) c.plain_steps-steps.result.now
    (live_phase_undo c.args.live.now c.args.op.now c.args.phase) _ c.in-Undo.of c.in-Undo.step (c.plain_steps-steps.ensures answers) (omega arith)))
