use Rattle.std.proofs.Common.{◌≡◌, None, ap, refl, subst, ◌∙◌}
use Rattle.store_spec.specs.declared.change.Change.TheVariants as change
use Rattle.store_spec.specs.Changes.{changed}
use Rattle.def_map.specs.Map.{MapRows, entry_in, found}
use Rattle.def_map.specs.Rows.{Updates, at}
use Rattle.def_map.proofs.MapFinds.{found_dropped, lead_dropped}
use Rattle.def_map.proofs.map.DefMap.remove.Goals as goal

pub invariant_of-self : goal.invariant_of-self
invariant_of-self c = lead_dropped (record { entries = c.self.inside.entries; names = c.self.inside.names }) (record { entries = c.remove.new.self; names = c.self.inside.names }) c.args.kind c.args.uuid refl
    (subst (λ key. Updates key None c.self.inside.entries c.remove.new.self) (c.as_slice.ensures ∙ c.uuid_key-key.ensures) c.remove.ensures.updates) c.self.invariant

pub returns-clause-dropped : goal.returns-clause-dropped
returns-clause-dropped c = λ k u. subst (λ (m : MapRows). found (record { entries = c.remove.new.self; names = c.self.inside.names }) k u ≡ changed (change.Drop c.args.kind c.args.uuid) (found m) k u) c.self.view_is (found_dropped (record { entries = c.self.inside.entries; names = c.self.inside.names }) (record { entries = c.remove.new.self; names = c.self.inside.names }) c.args.kind c.args.uuid (subst (λ key. Updates key None c.self.inside.entries c.remove.new.self) (c.as_slice.ensures ∙ c.uuid_key-key.ensures) c.remove.ensures.updates) k u)

pub returns-clause-old : goal.returns-clause-old
unfolding found
returns-clause-old c = c.flat.ensures ∙ ap entry_in (c.remove.ensures.old ∙ ap (at c.self.inside.entries) (c.as_slice.ensures ∙ c.uuid_key-key.ensures)) ∙ ap (λ (m : MapRows). found m c.args.kind c.args.uuid) c.self.view_is
