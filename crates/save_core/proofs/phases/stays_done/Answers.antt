use Rattle.save_core.proofs.Both.{quiet, with_one}
use Rattle.save_core.proofs.phases.stays_done.Goals as goal

-- each phase as its own function says
pub returns-in-Load : goal.returns-in-Load
returns-in-Load c = rw c.in-Load.is c.load_done.ensures

pub load_done-requires-clause-guest : goal.load_done-requires-clause-guest
load_done-requires-clause-guest c = rw c.into_loaded-guest.ensures.guest (rw c.in-Load.is at c.requires.made)

pub returns-in-Poll : goal.returns-in-Poll
returns-in-Poll c = rw (c.in-Poll.is, ← c.first_value.ensures) (with_one _ _ (λ l op h. quiet _ _ _ _ h) c.poll.ensures)

pub returns-in-Take : goal.returns-in-Take
returns-in-Take c = rw c.in-Take.is (c.take_done.ensures c.args.answers.now)

pub returns-in-Cancel : goal.returns-in-Cancel
returns-in-Cancel c = rw c.in-Cancel.is c.cancel_done.ensures

pub returns-in-MigrateCopy : goal.returns-in-MigrateCopy
returns-in-MigrateCopy c = rw c.in-MigrateCopy.is (with_one _ _ (λ l op h. quiet _ _ _ _ h) c.next_is.ensures)

pub returns-in-MigrateCancel : goal.returns-in-MigrateCancel
returns-in-MigrateCancel c = rw c.in-MigrateCancel.is (with_one _ _ (λ l op h. quiet _ _ _ _ h) c.migrate_cancel_done.ensures)

pub migrate_load_done-requires : goal.migrate_load_done-requires
migrate_load_done-requires c = record { told = rw c.into_told.ensures (rw c.in-MigrateLoad.is at c.requires.made) }

pub returns-in-MigrateLoad : goal.returns-in-MigrateLoad
returns-in-MigrateLoad c = rw c.in-MigrateLoad.is (with_one _ _ (λ l op h. quiet _ _ _ _ h) c.migrate_load_done.ensures)
