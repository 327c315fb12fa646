use Rattle.std.proofs.Common.{List, ℕ, subst}
use Rattle.store_reading.specs.Definition.{IsMadeOf}
use Rattle.store_reading.proofs.Reading.{map_ok, one_none, one_of}
use Rattle.store_reading.proofs.definition.read_one.Goals as goal

pub returns-in-Some : goal.returns-in-Some
returns-in-Some c = map_ok c.entry_of.result
    (λ x made. one_of c.args.bytes.now c.in-Some.first c.in-Some.ensures x (subst (λ (t : List ℕ). IsMadeOf c.in-Some.first.autostart c.in-Some.first.name.now t c.in-Some.first.rest.now x) c.as_slice.ensures made))
    c.entry_of.ensures

pub returns-in-None : goal.returns-in-None
returns-in-None c = one_none c.args.bytes.now c.in-None.ensures
