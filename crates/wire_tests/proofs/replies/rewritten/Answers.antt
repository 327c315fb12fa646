use Rattle.procedure_spec.proofs.Answered.{has_result}
use Rattle.wire_tests.proofs.replies.rewritten.Goals as goal

pub write_reply-requires : goal.write_reply-requires
write_reply-requires c = has_result c.args.header.now c.args.call.now c.args.request.now c.in-Ok.value c.requires c.in-Ok.ensures.found.shaped
