use Rattle.procedure_spec.proofs.Called.{asks_by}
use Rattle.remote_args.proofs.written_call.write_call.Goals as goal

pub returns : goal.returns
returns c = record {
  call = asks_by c.args.request.now c.args.serial c.requires;
  bytes = c.written.ensures.bytes;
  packet = c.written.ensures.packet;
  err = c.written.ensures.err;
}
