use Rattle.std.proofs.Common.{rules, ◌∙◌}
use Rattle.virsh_plan.proofs.Small.{spelled}
use Rattle.virsh_plan.proofs.domain.domain_target.Goals as goal

pub returns-clause-spelled : goal.returns-clause-spelled
returns-clause-spelled c =
    let object = spelled c.in_ok-copy_of.field-0 c.args.domain.now.name c.args.domain.now.uuid (c.in_ok-copy_of.ensures ∙ c.as_str.ensures.value) c.as_str.ensures.name
    c.known_uuid.ensures in
    record { name = object.name; uuid = object.uuid; id = search rules }
