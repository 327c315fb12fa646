use Rattle.markup.proofs.NameSets.{one_more_name}
use Rattle.markup.proofs.names.add_name.Goals as goal

pub returns-clause-added : goal.returns-clause-added
returns-clause-added c =
    one_more_name c.args.name c.args.names.now c.insert.new.self c.in_ok-insert.ensures.updates
