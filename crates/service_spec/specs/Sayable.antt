-- Replies that have a spelling.
use Rattle.std.specs.Prelude.{◌≤◌, length}
use Rattle.procedure_spec.specs.Results.{HasShape}
use Rattle.procedure_spec.specs.declared.shape.ResultShape.{ResultShape}
use Rattle.virt_types.specs.Limits.{most_kept_bytes}
use Rattle.virt_types.specs.declared.value.Reply.{Reply}
use Rattle.virt_types.specs.declared.value.Reply.TheVariants as reply

-- the value has this shape; a refusal keeps no more than refusals keep
abbrev pub IsSayable : ResultShape → Reply → Type 0
IsSayable shape (reply.Ok v) = HasShape v shape
IsSayable shape (reply.No why) = length why.kept ≤ most_kept_bytes
