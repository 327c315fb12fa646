use Rattle.std.proofs.Common.{◌∙◌, ap}
use Rattle.def_map.specs.Map.{MapRows, entry_in, found}
use Rattle.def_map.specs.Rows.{at}
use Rattle.def_map.proofs.map.DefMap.get.Goals as goal

pub returns-in-Some : goal.returns-in-Some
unfolding found
returns-in-Some c = c.as_ref.ensures.value ∙ ap entry_in (c.in-Some.ensures ∙ ap (at c.self.inside.entries) (c.as_slice.ensures ∙ c.uuid_key-key.ensures)) ∙ ap (λ (m : MapRows). found m c.args.kind c.args.uuid) c.self.view_is

pub returns-in-None : goal.returns-in-None
unfolding found
returns-in-None c = ap entry_in (c.in-None.ensures ∙ ap (at c.self.inside.entries) (c.as_slice.ensures ∙ c.uuid_key-key.ensures)) ∙ ap (λ (m : MapRows). found m c.args.kind c.args.uuid) c.self.view_is
