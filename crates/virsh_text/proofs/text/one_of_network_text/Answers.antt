use Rattle.std.proofs.Common.{[], ◌∷◌}
use Rattle.virt_types.specs.declared.value.Value.TheVariants as value
use Rattle.command_spec.specs.declared.command.Command.TheVariants as command
use Rattle.virsh_text.proofs.Shapes.{network_free, no_network, same_values}
use Rattle.virsh_text.proofs.text.one_of_network_text.Goals as goal

pub returns-in-Some : goal.returns-in-Some
returns-in-Some c = λ o name. same_values (command.Network c.args.verb name) o _ _ _ c.in-Some.ensures.some
    (network_free c.args.verb name o (value.Network c.in-Some.network.now ∷ c.in-Some.answer.now ∷ []) c.network_text.result c.network_text.ensures)

pub returns-in-None : goal.returns-in-None
returns-in-None c = λ o name. no_network c.args.verb name o _ c.in-None.ensures.none
