use Rattle.std.specs.Prelude.{OnOk}
use Rattle.remote_args.proofs.Written.{on_ok, request_parts}
use Rattle.remote_args.proofs.written_call.put_request.Goals as goal

pub returns : goal.returns
returns c = on_ok c.put_arguments.result _ _ c.put_arguments.ensures (λ e. request_parts _ _ _ c.args.request.now c.in_ok-put_target.ensures e)
