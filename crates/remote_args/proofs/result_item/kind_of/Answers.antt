use Rattle.procedure_spec.proofs.NumberedProofs.{kind_is}
use Rattle.remote_args.proofs.result_item.kind_of.Goals as goal

pub returns : goal.returns
returns c = kind_is c.args.number c.of_number.result c.of_number.ensures.some c.of_number.ensures.none
