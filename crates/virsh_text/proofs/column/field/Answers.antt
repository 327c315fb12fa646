use Rattle.std.proofs.Common.{arith}
use Rattle.std.specs.Fmt.{format_spec, styled_text}
use Rattle.virsh_text.proofs.Padded.{field_is, label_left}
use Rattle.virsh_text.proofs.column.field.Goals as goal

pub returns : goal.returns
returns c =
    let label = c.args.label.now in
    let put = c.in_ok-format.ensures in
    field_is (λ f. styled_text f label) c.laid_out.result (format_spec 32 1 0 16 18446744073709551615) label c.args.value.now _ c.laid_out.ensures (label_left label (omega arith)) put.ok
