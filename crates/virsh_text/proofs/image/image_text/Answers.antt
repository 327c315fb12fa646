use Rattle.std.proofs.Common.{arith}
use Rattle.virsh_text.proofs.Jobs.{no_image}
use Rattle.virsh_text.proofs.image.image_text.Goals as goal

pub returns-in-None : goal.returns-in-None
returns-in-None c = no_image c.args.values.now _ _ _ _ c.in_ok-jobs.field-0 c.in_ok-jobs.ensures c.in-None.is (omega arith)
