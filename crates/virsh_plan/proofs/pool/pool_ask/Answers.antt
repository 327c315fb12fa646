use Rattle.std.proofs.Common.{pos, rules}
use Rattle.virsh_plan.proofs.Small.{small_integer}
use Rattle.virsh_plan.proofs.pool.pool_ask.Goals as goal

pub returns-in-Autostart-clause-small : goal.returns-in-Autostart-clause-small
returns-in-Autostart-clause-small c = small_integer (pos 1) (search rules)
