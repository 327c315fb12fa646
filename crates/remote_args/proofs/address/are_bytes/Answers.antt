use Rattle.std.proofs.Common.{arith}
use Rattle.procedure_spec.proofs.LeaseTexts.{bytes_all}
use Rattle.remote_args.proofs.address.are_bytes.Goals as goal

pub returns : goal.returns
returns c = bytes_all c.args.bytes.now (λ i. omega (arith, c.type_inv.bytes i))
