use Rattle.command_spec.proofs.Shown.{shows_shut_off}
use Rattle.command_spec.proofs.laws.table_shows_shut_off.Goals as goal

pub returns : goal.returns
returns c = shows_shut_off
