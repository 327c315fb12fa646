use Rattle.std.proofs.Common.{inr, subst}
use Rattle.driver_cells.specs.Known.{known_row}
use Rattle.driver_lists.specs.Whole.{HasReadList}
use Rattle.driver_lists.proofs.Answering.{is_stopped}
use Rattle.driver_lists.proofs.lists.list_all.Goals as goal

pub returns-in-Err-clause-outcome : goal.returns-in-Err-clause-outcome
returns-in-Err-clause-outcome g c = inr (is_stopped (known_row c.args.row) (known_row c.read_list-row.result.0) c.in-Err.why c.stopped.result.reply
    (subst (HasReadList (known_row c.args.row) (known_row c.read_list-row.result.0)) c.in-Err.is c.read_list-row.ensures.read) c.stopped.ensures.tells)
