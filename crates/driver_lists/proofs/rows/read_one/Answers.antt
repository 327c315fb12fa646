use Rattle.std.proofs.Common.{subst}
use Rattle.std.specs.List.{All}
use Rattle.driver_cells.specs.Ready.{KeepsNothing}
use Rattle.driver_lists.proofs.Places.{one_of}
use Rattle.driver_lists.proofs.Rowing.{free_if_fresh, has_read_one, keeps_nothing, passes_go}
use Rattle.driver_lists.proofs.rows.read_one.Goals as goal

pub state_of-state-requires : goal.state_of-state-requires
state_of-state-requires g c = free_if_fresh c.read_row-pass.result.0 (keeps_nothing c.take-pass.result.0 c.read_row-pass.result.0 c.read_row-pass.ensures.0 c.read_row-pass.ensures.1
    (one_of KeepsNothing c.take-pass.result.1.before c.take-pass.result.0 c.take-pass.result.1.after (subst (All KeepsNothing) c.take-pass.ensures.all c.requires.rest)))

pub returns-clause-go : goal.returns-clause-go
returns-clause-go g c = passes_go c.args.passes c.put.result c.take-pass.result.1.before c.take-pass.result.1.after c.take-pass.result.0 c.read_row-pass.result.0 c.take-pass.ensures.all c.put.ensures
    c.read_row-pass.ensures.0 c.read_row-pass.ensures.1 c.requires.rest

pub returns-clause-read : goal.returns-clause-read
returns-clause-read g c = has_read_one c.args.passes c.put.result c.take-pass.result.1.before c.take-pass.result.1.after c.take-pass.result.0 c.read_row-pass.result.0 c.take-pass.ensures.all c.put.ensures
    c.args.at.now c.take-pass.ensures.slot c.read_row-pass.result.1 c.read_row-pass.ensures
