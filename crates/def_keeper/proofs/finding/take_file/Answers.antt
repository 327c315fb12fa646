use Rattle.def_map.specs.Map.{found}
use Rattle.def_keeper.proofs.Takes.{good_ok}
use Rattle.def_keeper.proofs.finding.take_file.Goals as goal

pub returns-in-Ok-Some-clause-good : goal.returns-in-Ok-Some-clause-good
returns-in-Ok-Some-clause-good c = good_ok c.take_entry.result (found c.args.map.now) (found c.take_entry.new.map) c.in-Some.key.0 c.in-Some.key.1 c.args.bytes.now c.in-Ok-Some.read.version c.in-Ok-Some.read.entry
    (rw c.in-Ok-Some.field-0-is at c.in-Ok-Some.ensures) c.take_entry.ensures.ok
