use Rattle.save_core.proofs.steps.load_undo.Goals as goal

-- a guest that ran goes on
pub returns-else-op : goal.returns-else-op
returns-else-op c = λ d c' answers. rw (c.if-op.false, ← c.is_running.ensures) (c.cont_if.ensures d c.args.live.now c.args.op.now c' answers)
