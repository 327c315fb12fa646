use Rattle.std.proofs.Common.{◌∙◌, None, ap, refl, subst, sym}
use Rattle.def_map.specs.Map.{IsHolder, MapRows, found}
use Rattle.def_map.specs.Rows.{Updates}
use Rattle.def_map.proofs.MapFinds.{found_entries, lead_forgotten}
use Rattle.def_map.proofs.map.DefMap.forget.Goals as goal

pub invariant_of-self : goal.invariant_of-self
invariant_of-self c = lead_forgotten (record { entries = c.self.inside.entries; names = c.self.inside.names }) (record { entries = c.self.inside.entries; names = c.remove.new.self }) c.args.kind c.args.name.now refl
    (subst (λ (m : MapRows). IsHolder c.args.kind c.args.name.now (found m) None) (sym c.self.view_is) c.in-None.ensures)
    (subst (λ key. Updates key None c.self.inside.names c.remove.new.self) c.name_key.ensures c.remove.ensures.updates) c.self.invariant

pub returns-clause-same : goal.returns-clause-same
returns-clause-same c = λ k u. found_entries c.self.inside.entries c.remove.new.self c.self.inside.names k u ∙ ap (λ (m : MapRows). found m k u) c.self.view_is
