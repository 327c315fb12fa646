use Rattle.std.proofs.Common.{◌∙◌}
use Rattle.procedure_spec.proofs.LeaseTexts.{printed_address}
use Rattle.procedure_spec.proofs.addresses.address_text.Goals as goal

pub returns : goal.returns
returns c = c.in_ok-to_string.ensures.ok ∙ printed_address c.from_bits.result c.args.address c.from_bits.ensures
