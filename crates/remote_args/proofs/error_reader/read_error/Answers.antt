use Rattle.std.proofs.Common.{arith}
use Rattle.procedure_spec.specs.Errors.{IsErrorOf}
use Rattle.procedure_spec.specs.ErrorsReading.{error_of}
use Rattle.procedure_spec.proofs.Found.{found_by, only_by}
use Rattle.procedure_spec.proofs.Refusals.{error_again, error_found}
use Rattle.remote_args.proofs.error_reader.read_error.Goals as goal

pub returns : goal.returns
returns c =
    let payload = c.args.payload.now in
    record {
      found = found_by (IsErrorOf payload) (error_of payload) c.whole.result (λ r e. error_found payload r (λ i. omega (arith, c.type_inv.payload i)) e) c.whole.ensures;
      only = only_by (IsErrorOf payload) (error_of payload) c.whole.result (error_again payload) c.whole.ensures;
      fault = c.whole.ensures;
    }
