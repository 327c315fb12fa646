use Rattle.virsh_text.proofs.Shapes.{no_pool, same_values}
use Rattle.virsh_text.proofs.text.one_of_pool_text.Goals as goal

pub returns-in-Some : goal.returns-in-Some
returns-in-Some c = λ o. same_values _ o _ _ _ c.in-Some.ensures.some (c.of_pool_text.ensures o)

pub returns-in-None : goal.returns-in-None
returns-in-None c = λ o. no_pool _ o _ c.requires c.in-None.ensures.none
