use Rattle.procedure_spec.proofs.NumberedProofs.{state_is}
use Rattle.remote_args.proofs.result_item.state_of.Goals as goal

pub returns : goal.returns
returns c = state_is c.args.number c.of_number.result c.of_number.ensures.some c.of_number.ensures.none
