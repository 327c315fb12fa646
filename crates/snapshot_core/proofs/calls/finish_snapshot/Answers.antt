use Rattle.std.proofs.Common.{None}
use Rattle.domain_spec.specs.Types.call
use Rattle.domain_spec.specs.Types.state
use Rattle.domain_spec.specs.Tests.{refusal_of}
use Rattle.snapshot_core.proofs.CallProofs.{judged_ends}
use Rattle.snapshot_core.proofs.calls.finish_snapshot.Goals as goal

pub returns-in-Err-clause-reply : goal.returns-in-Err-clause-reply
returns-in-Err-clause-reply c =
    let asked = call.Snapshot c.args.info.now in
    judged_ends c.in-Err.end (refusal_of (state.Held c.args.domain.now) None asked) (state.Held c.args.domain.now) asked c.args.answers.now c.in-Err.ensures
