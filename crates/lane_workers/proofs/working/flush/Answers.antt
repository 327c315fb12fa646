use Rattle.lane_workers.proofs.Steps.{turns_flush}
use Rattle.lane_workers.proofs.working.flush.Goals as goal

pub returns : goal.returns
returns g c = turns_flush c.args.worker.lane c.args.worker.row c.flush_once-pass.result.1 c.args.worker.pass c.flush_once-pass.result.0 c.flush_once-pass.ensures.flushed
