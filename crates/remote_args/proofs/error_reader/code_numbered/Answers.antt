use Rattle.procedure_spec.proofs.Codes.{code_is}
use Rattle.remote_args.proofs.error_reader.code_numbered.Goals as goal

pub returns : goal.returns
returns c = code_is c.args.number c.of_number.result c.of_number.ensures.some c.of_number.ensures.none
