use Rattle.procedure_spec.proofs.LeaseTexts.{address_absent}
use Rattle.procedure_spec.proofs.addresses.address_of.Goals as goal

pub returns-in-Err : goal.returns-in-Err
returns-in-Err c = address_absent c.args.text.now c.in-Err.ensures.value
