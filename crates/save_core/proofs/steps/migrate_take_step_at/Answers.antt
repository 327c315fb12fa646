use Rattle.std.proofs.Common.{◌∙◌, option_map, ap, sym}
use Rattle.domain_spec.specs.PhaseAsks.{migrate_take_plan}
use Rattle.core_rules.specs.Next.{next_if}
use Rattle.save_core.specs.Steps.{ask_of}
use Rattle.save_core.proofs.Places.{step_planned_in, step_take_undone}
use Rattle.save_core.proofs.steps.migrate_take_step_at.Goals as goal

-- a planned ask
pub returns-in-Plan : goal.returns-in-Plan
returns-in-Plan c = λ d op c' answers.
    rw c.in-Plan.is
    (ap next_if
    (step_planned_in (ask_of d c.args.live.now op c' answers) c.migrate_take_steps.result.now (migrate_take_plan c.args.live.now) c.in-Plan.n
    (c.migrate_take_steps.ensures d c.args.live.now op c' answers (sym c.is_running-runs.ensures))
    ∙ ap (option_map (ask_of d c.args.live.now op c' answers)) (sym c.step_in.ensures)))

-- a step of its undo
pub returns-in-Undo : goal.returns-in-Undo
returns-in-Undo c = λ d op c' answers.
    rw c.in-Undo.is
    (ap next_if
    (step_take_undone (ask_of d c.args.live.now op c' answers) c.migrate_take_undo.result.now c.args.live.now c.in-Undo.of c.in-Undo.step
    (rw (← c.is_running-runs.ensures) (c.migrate_take_undo.ensures d c.args.live.now op c' answers))
    ∙ ap (option_map (ask_of d c.args.live.now op c' answers)) (sym c.step_in-in-Undo.ensures)))
