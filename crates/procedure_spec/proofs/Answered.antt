-- What a value has to be so that it answers a request.
use Rattle.std.proofs.Common.{◌≡◌, ℕ, List, Option, Some, sym, ap, subst, ◌∙◌}
use Rattle.virt_types.specs.declared.request.Request.{Request}
use Rattle.virt_types.specs.declared.value.Value.{Value}
use Rattle.wire_spec.specs.declared.message.Header.{Header}
use Rattle.procedure_spec.specs.Calls.{IsCall}
use Rattle.procedure_spec.specs.Lines.{line}
use Rattle.procedure_spec.specs.Results.{HasResult, HasShape, result_shape}
use Rattle.procedure_spec.specs.declared.procedure.Procedure.{Procedure}
use Rattle.procedure_spec.specs.declared.shape.ResultShape.{ResultShape}
use Rattle.procedure_spec.specs.declared.table.Row.{Row}
use Rattle.procedure_spec.proofs.LinesAre.{line_is}

-- the line of a call says what the reply to the request holds
line_result : (h : Header) (payload : List ℕ) (asked : Request) (is : IsCall h payload asked) → is.row.result ≡ result_shape asked
line_result h payload asked is =
    ap (λ (r : Row). r.result) (line_is h.prog h.procedure is.row is.is_line) ∙ ap (λ (p : Procedure). (line p).result) (sym is.procedure)

-- a value of the shape that the request's reply has answers its call
pub has_result : (h : Header) (payload : List ℕ) (asked : Request) (v : Value) → IsCall h payload asked → HasShape v (result_shape asked) → HasResult h v
has_result h payload asked v is shaped = record {
  row = is.row;
  is_line = is.is_line;
  shaped = subst (λ (s : ResultShape). HasShape v s) (sym (line_result h payload asked is)) shaped;
}

same_row : (a b : Row) → (let o : Option Row = Some a in o ≡ Some b) → a ≡ b
same_row a b e = cc

-- and one that answers a call has the shape of its request's reply
pub result_shaped : (h : Header) (payload : List ℕ) (asked : Request) (v : Value) → IsCall h payload asked → HasResult h v → HasShape v (result_shape asked)
result_shaped h payload asked v is has =
    let row : has.row ≡ is.row = same_row has.row is.row (sym has.is_line ∙ is.is_line) in
    subst (λ (s : ResultShape). HasShape v s) (ap (λ (r : Row). r.result) row ∙ line_result h payload asked is) has.shaped
