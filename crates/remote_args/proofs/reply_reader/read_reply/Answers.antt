use Rattle.std.proofs.Common.{arith}
use Rattle.procedure_spec.specs.Results.{IsAnswer}
use Rattle.procedure_spec.specs.ResultsReading.{reply_of}
use Rattle.procedure_spec.proofs.Answers.{answer_again, answer_found}
use Rattle.procedure_spec.proofs.Found.{found_by, only_by}
use Rattle.remote_args.proofs.reply_reader.read_reply.Goals as goal

pub returns : goal.returns
returns c =
    let payload = c.args.payload.now in
    let asked = c.args.request.now in
    record {
      found = found_by (IsAnswer asked payload) (reply_of asked payload) c.answer.result (λ v e. answer_found asked payload v (λ i. omega (arith, c.type_inv.payload i)) e) c.answer.ensures;
      only = only_by (IsAnswer asked payload) (reply_of asked payload) c.answer.result (answer_again asked payload) c.answer.ensures;
      fault = c.answer.ensures;
    }
