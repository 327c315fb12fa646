use Rattle.virsh_text.proofs.Shapes.{no_domain, same_values}
use Rattle.virsh_text.proofs.text.one_of_domain_text.Goals as goal

pub returns-in-Some : goal.returns-in-Some
returns-in-Some c = λ o. let s = c.in-Some.ensures.some in same_values _ o _ _ _ s.1 (c.of_domain_text.ensures o s.0)

pub returns-in-None : goal.returns-in-None
returns-in-None c = λ o. no_domain _ o _ c.requires c.in-None.ensures.none
