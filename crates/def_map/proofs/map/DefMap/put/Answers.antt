use Rattle.std.proofs.Common.{◌≡◌, ◌∙◌, Some, ap, refl, subst, sym}
use Rattle.store_spec.specs.declared.change.Change.TheVariants as change
use Rattle.store_spec.specs.Changes.{changed}
use Rattle.def_map.specs.Map.{MapRows, IsReady, entry_in, found}
use Rattle.def_map.specs.Rows.{Updates, at}
use Rattle.def_map.proofs.MapFinds.{found_put, lead_put}
use Rattle.def_map.proofs.map.DefMap.put.Goals as goal

pub invariant_of-self : goal.invariant_of-self
invariant_of-self c = lead_put (record { entries = c.self.inside.entries; names = c.self.inside.names }) (record { entries = c.set.new.self; names = c.self.inside.names }) c.args.kind c.args.uuid c.args.entry
    (subst (λ (m : MapRows). IsReady c.args.kind c.args.uuid c.args.entry.name m) (sym c.self.view_is) c.requires.ready) refl
    (subst (λ key. Updates key (Some (Some c.args.entry)) c.self.inside.entries c.set.new.self) c.requires.row c.set.ensures.updates) c.self.invariant

pub returns-clause-put : goal.returns-clause-put
returns-clause-put c = λ k u. subst (λ (m : MapRows). found (record { entries = c.set.new.self; names = c.self.inside.names }) k u ≡ changed (change.Put c.args.kind c.args.uuid c.args.entry) (found m) k u) c.self.view_is (found_put (record { entries = c.self.inside.entries; names = c.self.inside.names }) (record { entries = c.set.new.self; names = c.self.inside.names }) c.args.kind c.args.uuid c.args.entry (subst (λ key. Updates key (Some (Some c.args.entry)) c.self.inside.entries c.set.new.self) c.requires.row c.set.ensures.updates) k u)

pub returns-clause-old : goal.returns-clause-old
unfolding found
returns-clause-old c = c.flat.ensures ∙ ap entry_in (c.set.ensures.old ∙ ap (at c.self.inside.entries) c.requires.row) ∙ ap (λ (m : MapRows). found m c.args.kind c.args.uuid) c.self.view_is
