use Rattle.std.proofs.Common.{inl, refl, subst, sym}
use Rattle.def_map.specs.Map.{MapRows, FindsTheSame, IsFree, IsMade, IsNamed, found}
use Rattle.def_map.proofs.MapFinds.{prepared}
use Rattle.def_map.proofs.map.DefMap.prepare.Goals as goal

pub invariant_of-self : goal.invariant_of-self
invariant_of-self c = (prepared (record { entries = c.self.inside.entries; names = c.self.inside.names }) (record { entries = c.self.inside.entries; names = c.make_name.new.names }) c.args.kind c.args.uuid c.args.name.now
    (subst (λ (m : MapRows). IsFree c.args.kind c.args.uuid c.args.name.now (found m)) (sym c.self.view_is) c.requires) c.self.invariant (inl refl)
    (subst (λ key. IsNamed key c.args.uuid c.self.inside.names c.make_name.new.names) c.in-Ok.ensures.name c.make_name.ensures.made)).0

pub returns-then-is_err-clause-same : goal.returns-then-is_err-clause-same
returns-then-is_err-clause-same c = subst (λ (m : MapRows). FindsTheSame m (record { entries = c.self.inside.entries; names = c.make_name.new.names })) c.self.view_is (prepared (record { entries = c.self.inside.entries; names = c.self.inside.names }) (record { entries = c.self.inside.entries; names = c.make_name.new.names }) c.args.kind c.args.uuid c.args.name.now
    (subst (λ (m : MapRows). IsFree c.args.kind c.args.uuid c.args.name.now (found m)) (sym c.self.view_is) c.requires) c.self.invariant (inl refl)
    (subst (λ key. IsNamed key c.args.uuid c.self.inside.names c.make_name.new.names) c.in-Ok.ensures.name c.make_name.ensures.made)).1

pub invariant_of-self-then-is_err-2 : goal.invariant_of-self-then-is_err-2
invariant_of-self-then-is_err-2 c = (prepared (record { entries = c.self.inside.entries; names = c.self.inside.names }) (record { entries = c.make_row.new.entries; names = c.make_name.new.names }) c.args.kind c.args.uuid c.args.name.now
    (subst (λ (m : MapRows). IsFree c.args.kind c.args.uuid c.args.name.now (found m)) (sym c.self.view_is) c.requires) c.self.invariant
    (subst (λ key. IsMade key c.self.inside.entries c.make_row.new.entries) c.in-Ok.ensures.entry c.make_row.ensures.made)
    (subst (λ key. IsNamed key c.args.uuid c.self.inside.names c.make_name.new.names) c.in-Ok.ensures.name c.make_name.ensures.made)).0

pub returns-then-is_err-2-clause-same : goal.returns-then-is_err-2-clause-same
returns-then-is_err-2-clause-same c = subst (λ (m : MapRows). FindsTheSame m (record { entries = c.make_row.new.entries; names = c.make_name.new.names })) c.self.view_is (prepared (record { entries = c.self.inside.entries; names = c.self.inside.names }) (record { entries = c.make_row.new.entries; names = c.make_name.new.names }) c.args.kind c.args.uuid c.args.name.now
    (subst (λ (m : MapRows). IsFree c.args.kind c.args.uuid c.args.name.now (found m)) (sym c.self.view_is) c.requires) c.self.invariant
    (subst (λ key. IsMade key c.self.inside.entries c.make_row.new.entries) c.in-Ok.ensures.entry c.make_row.ensures.made)
    (subst (λ key. IsNamed key c.args.uuid c.self.inside.names c.make_name.new.names) c.in-Ok.ensures.name c.make_name.ensures.made)).1

pub invariant_of-self-2 : goal.invariant_of-self-2
invariant_of-self-2 c = (prepared (record { entries = c.self.inside.entries; names = c.self.inside.names }) (record { entries = c.make_row.new.entries; names = c.make_name.new.names }) c.args.kind c.args.uuid c.args.name.now
    (subst (λ (m : MapRows). IsFree c.args.kind c.args.uuid c.args.name.now (found m)) (sym c.self.view_is) c.requires) c.self.invariant
    (subst (λ key. IsMade key c.self.inside.entries c.make_row.new.entries) c.in-Ok.ensures.entry c.make_row.ensures.made)
    (subst (λ key. IsNamed key c.args.uuid c.self.inside.names c.make_name.new.names) c.in-Ok.ensures.name c.make_name.ensures.made)).0

pub returns-clause-same : goal.returns-clause-same
returns-clause-same c = subst (λ (m : MapRows). FindsTheSame m (record { entries = c.make_row.new.entries; names = c.make_name.new.names })) c.self.view_is (prepared (record { entries = c.self.inside.entries; names = c.self.inside.names }) (record { entries = c.make_row.new.entries; names = c.make_name.new.names }) c.args.kind c.args.uuid c.args.name.now
    (subst (λ (m : MapRows). IsFree c.args.kind c.args.uuid c.args.name.now (found m)) (sym c.self.view_is) c.requires) c.self.invariant
    (subst (λ key. IsMade key c.self.inside.entries c.make_row.new.entries) c.in-Ok.ensures.entry c.make_row.ensures.made)
    (subst (λ key. IsNamed key c.args.uuid c.self.inside.names c.make_name.new.names) c.in-Ok.ensures.name c.make_name.ensures.made)).1
