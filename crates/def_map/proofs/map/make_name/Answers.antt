use Rattle.def_map.proofs.MapFinds.{named_by, there_by}
use Rattle.def_map.proofs.map.make_name.Goals as goal

pub returns-clause-there : goal.returns-clause-there
returns-clause-there c = there_by c.insert.result c.args.key.items c.args.uuid c.args.names.now c.insert.new.self c.insert.ensures.ok

pub returns-clause-made : goal.returns-clause-made
returns-clause-made c = named_by c.insert.result c.args.key.items c.args.uuid c.args.names.now c.insert.new.self c.insert.ensures.ok c.insert.ensures.err
