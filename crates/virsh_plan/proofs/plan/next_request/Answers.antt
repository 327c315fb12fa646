use Rattle.virsh_plan.proofs.Few.{few_if}
use Rattle.virsh_plan.proofs.plan.next_request.Goals as goal

pub returns-clause-few : goal.returns-clause-few
returns-clause-few c = few_if c.args.command.now c.args.option c.args.xml.now c.args.values.now c.planned.result c.planned.ensures.request
