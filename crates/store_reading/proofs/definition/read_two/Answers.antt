use Rattle.store_reading.proofs.Reading.{map_ok, two_none, two_of}
use Rattle.store_reading.proofs.definition.read_two.Goals as goal

pub returns-in-Some : goal.returns-in-Some
returns-in-Some c = map_ok c.read_after.result (λ x read. two_of c.args.bytes.now c.in-Some.first c.in-Some.ensures x read) c.read_after.ensures

pub returns-in-None : goal.returns-in-None
returns-in-None c = two_none c.args.bytes.now c.in-None.ensures
