use Rattle.std.proofs.Common.{◌∙◌}
use Rattle.wire_spec.proofs.Strings.{none_text, some_text}
use Rattle.xdr_codec.proofs.bytes.utf8.Goals as goal

pub returns-in-Ok : goal.returns-in-Ok
returns-in-Ok c = (none_text c.args.place c.args.bytes.now c.in-Ok.ensures.cases.1, c.in-Ok.ensures.cases.0)

pub returns-in-Err : goal.returns-in-Err
returns-in-Err c = some_text c.args.place c.valid_up_to.result c.args.bytes.now c.in-Err.ensures.cases.0 (c.valid_up_to.ensures ∙ c.in-Err.ensures.valid_len)
