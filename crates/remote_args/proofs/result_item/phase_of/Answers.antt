use Rattle.procedure_spec.proofs.NumberedProofs.{phase_is}
use Rattle.remote_args.proofs.result_item.phase_of.Goals as goal

pub returns : goal.returns
returns c = phase_is c.args.number c.of_number.result c.of_number.ensures.some c.of_number.ensures.none
