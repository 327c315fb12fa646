use Rattle.std.proofs.Common.{arith, subst}
use Rattle.std.specs.Prelude.{IsErrOf, IsOk}
use Rattle.virt_types.specs.Memory.{UnlessNoMemory}
use Rattle.virt_types.specs.Below.types_base.declared.memory.OrNoMemory.TheVariants.{NoMemory}
use Rattle.procedure_spec.specs.Calls.{IsCall, call_of, in_line, line_of}
use Rattle.procedure_spec.proofs.Called.{call_again, call_found, call_in}
use Rattle.procedure_spec.proofs.Found.{found_by, only_by}
use Rattle.remote_args.proofs.call.read_call.Goals as goal

pub returns : goal.returns
returns c =
    let h = c.args.header.now in
    let payload = c.args.payload.now in
    let read = subst (λ r. UnlessNoMemory c.in_line.result r) (call_in h payload) (subst (λ l. UnlessNoMemory c.in_line.result (in_line l payload)) c.line.ensures c.in_line.ensures.fault) in
    record {
      found = found_by (IsCall h payload) (call_of h payload) c.in_line.result (λ r e. call_found h payload r (λ i. omega (arith, c.type_inv.payload i)) e) read;
      only = only_by (IsCall h payload) (call_of h payload) c.in_line.result (call_again h payload) read;
      fault = read;
      memory = subst (λ l. IsErrOf c.in_line.result NoMemory → IsOk l) c.line.ensures c.in_line.ensures.memory;
    }
