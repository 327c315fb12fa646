-- Replies that can be written. No public clause cites this.
use Rattle.std.specs.Prelude.{◌≤◌, length}
use Rattle.procedure_spec.specs.Results.{HasResult}
use Rattle.virt_types.specs.Limits.{most_kept_bytes}
use Rattle.virt_types.specs.declared.value.Reply.{Reply}
use Rattle.virt_types.specs.declared.value.Reply.TheVariants as reply
use Rattle.wire_spec.specs.declared.message.Header.{Header}

-- the reply can be written as the one to a call of this header
abbrev pub CanReply : Header → Reply → Type 0
CanReply call (reply.Ok v) = HasResult call v
CanReply call (reply.No why) = length why.kept ≤ most_kept_bytes
