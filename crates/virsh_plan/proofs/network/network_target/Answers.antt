use Rattle.std.proofs.Common.{◌∙◌}
use Rattle.virsh_plan.proofs.Small.{spelled}
use Rattle.virsh_plan.proofs.network.network_target.Goals as goal

pub returns-clause-spelled : goal.returns-clause-spelled
returns-clause-spelled c = spelled c.in_ok-copy_of.field-0 c.args.network.now.name c.args.network.now.uuid (c.in_ok-copy_of.ensures ∙ c.as_str.ensures.value) c.as_str.ensures.name
    c.known_uuid.ensures
