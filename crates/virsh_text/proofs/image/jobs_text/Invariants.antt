use Rattle.std.proofs.Common.{take}
use Rattle.std.specs.String.{string_bytes}
use Rattle.virsh_text.specs.Objects.{JobsPrint}
use Rattle.virsh_text.proofs.image.jobs_text.Given as goal

abbrev pub invariant-loop-value : goal.invariant-loop-value
invariant-loop-value l = JobsPrint (take l.value-index l.values) (string_bytes l.text)
