use Rattle.std.proofs.Common.{arith}
use Rattle.std.specs.Fmt.{format_spec, styled_text}
use Rattle.virsh_text.proofs.Padded.{id_right, name_left, row_is}
use Rattle.virsh_text.proofs.column.row_text.Goals as goal

pub returns : goal.returns
returns c =
    let id = c.args.id.now in
    let name = c.args.name.now in
    let put = c.in_ok-format.ensures in
    row_is (λ f. styled_text f id) (λ f. styled_text f name) c.laid_out.result (format_spec 32 3 0 5 18446744073709551615) c.laid_out-2.result (format_spec 32 1 0 20 18446744073709551615)
    id name c.args.state.now _ c.laid_out.ensures c.laid_out-2.ensures (id_right id (omega arith)) (name_left name (omega arith)) put.ok
