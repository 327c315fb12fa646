use Rattle.std.proofs.Common.{rules}
use Rattle.std.proofs.lemmas.Fn.{filter_same}
use Rattle.command_spec.specs.Printed.{is_active}
use Rattle.virsh_text.proofs.table.active.Goals as goal

pub returns : goal.returns
returns c = filter_same _ is_active _ (λ row b f r. search rules) _ _ c.retain.ensures.filtered
