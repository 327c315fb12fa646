use Rattle.save_core.proofs.steps.plain_undo.Goals as goal

-- as its own function says
pub returns-in-Load : goal.returns-in-Load
returns-in-Load c = λ d answers. rw c.in-Load.is (c.load_undo.ensures d c.args.call.now answers)

-- a guest that ran goes on
pub returns-in-Copy : goal.returns-in-Copy
returns-in-Copy c = λ d answers. rw (c.in-Copy.is, ← c.is_running.ensures) (c.cont_if.ensures d c.args.live.now c.args.op.now c.args.call.now answers)
