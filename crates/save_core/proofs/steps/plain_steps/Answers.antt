use Rattle.save_core.proofs.steps.plain_steps.Goals as goal

-- each phase as its own function says
pub returns-in-Load : goal.returns-in-Load
returns-in-Load c = λ answers. rw c.in-Load.is (c.load_steps.ensures answers)

pub returns-in-Copy : goal.returns-in-Copy
returns-in-Copy c = λ answers. rw c.in-Copy.is (c.copy_steps.ensures c.args.domain.now c.args.op.now c.args.call.now answers)

pub returns-in-Poll : goal.returns-in-Poll
returns-in-Poll c = λ answers. rw c.in-Poll.is (c.poll_steps.ensures c.args.domain.now c.args.live.now c.args.call.now answers)

pub returns-in-Take : goal.returns-in-Take
returns-in-Take c = λ answers. rw c.in-Take.is (c.take_steps.ensures c.args.domain.now answers)

pub returns-in-Cancel : goal.returns-in-Cancel
returns-in-Cancel c = λ answers. rw c.in-Cancel.is (c.cancel_steps.ensures c.args.domain.now c.args.call.now answers)

pub returns-in-MigrateLoad : goal.returns-in-MigrateLoad
returns-in-MigrateLoad c = λ answers. rw c.in-MigrateLoad.is (c.migrate_load_steps.ensures c.args.live.now c.args.op.now answers)

pub returns-in-MigrateBack : goal.returns-in-MigrateBack
returns-in-MigrateBack c = λ answers. rw c.in-MigrateBack.is (c.cont_if.ensures c.args.domain.now c.args.live.now c.args.op.now c.args.call.now answers)

pub returns-in-MigrateRun : goal.returns-in-MigrateRun
returns-in-MigrateRun c = λ answers. rw c.in-MigrateRun.is (c.cont_if-in-MigrateRun.ensures c.args.domain.now c.args.live.now c.args.op.now c.args.call.now answers)
