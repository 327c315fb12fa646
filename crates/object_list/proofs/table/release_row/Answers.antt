use Rattle.std.proofs.Common.{◌<◌, ap, sym, ◌∙◌, subst, Option, Some, set, arith}
use Rattle.std.proofs.lemmas.List.{set-set}
use Rattle.book_spec.specs.Slots.{times_held, released}
use Rattle.book_spec.specs.declared.list.Entry.{Entry}
use Rattle.object_list.proofs.Rows.{stood, stood_not, goes_out, remains, release_kept}
use Rattle.object_list.proofs.Tables.{held-some}
use Rattle.object_list.proofs.table.release_row.Goals as goal

pub index_mut-requires : goal.index_mut-requires
index_mut-requires g c = omega (arith, (held-some g.number c.args.slot c.args.rows.now.items c.requires).0, c.args.rows.now.ok.0)

pub returns-in_default-clause-stays : goal.returns-in_default-clause-stays
returns-in_default-clause-stays g c = let h = held-some g.number c.args.slot c.args.rows.now.items c.requires in
    absurd (omega (arith, subst (λ (o : Option Entry). 0 < times_held g.number o) (stood_not c.args.rows.now.items c.args.slot c.index_mut.result.now c.take.result h.0 c.index_mut.ensures.value c.take.ensures.value c.in_default.is) h.1))

pub release-requires : goal.release-requires
release-requires g c = subst (λ (o : Option Entry). 0 < times_held g.number o) (stood c.args.rows.now.items c.args.slot c.index_mut.result.now c.take.result c.in-Some.row (held-some g.number c.args.slot c.args.rows.now.items c.requires).0 c.index_mut.ensures.value c.take.ensures.value c.in-Some.is) (held-some g.number c.args.slot c.args.rows.now.items c.requires).1

pub returns-then-is_idle-clause-out : goal.returns-then-is_idle-clause-out
returns-then-is_idle-clause-out g c = let h = held-some g.number c.args.slot c.args.rows.now.items c.requires in let at = (stood c.args.rows.now.items c.args.slot c.index_mut.result.now c.take.result c.in-Some.row (held-some g.number c.args.slot c.args.rows.now.items c.requires).0 c.index_mut.ensures.value c.take.ensures.value c.in-Some.is) in
    goes_out g.number c.args.front c.args.occupied c.args.rows.now.items (set c.args.rows.now.items c.args.slot c.take.new.self) c.args.slot c.in-Some.row c.release.new.self h.0 at (subst (λ (o : Option Entry). 0 < times_held g.number o) at h.1) c.release.ensures (sym c.if-is_idle.true ∙ c.is_idle.ensures) (ap (set c.args.rows.now.items c.args.slot) c.take.ensures.after)

pub index_mut-requires-2 : goal.index_mut-requires-2
index_mut-requires-2 g c = omega (arith, (held-some g.number c.args.slot c.args.rows.now.items c.requires).0, c.args.rows.now.ok.0)

pub returns-clause-left : goal.returns-clause-left
returns-clause-left g c = let at = (stood c.args.rows.now.items c.args.slot c.index_mut.result.now c.take.result c.in-Some.row (held-some g.number c.args.slot c.args.rows.now.items c.requires).0 c.index_mut.ensures.value c.take.ensures.value c.in-Some.is) in
    set-set c.args.rows.now.items c.args.slot c.take.new.self (Some c.release.new.self)
    ∙ ap (set c.args.rows.now.items c.args.slot) (sym (release_kept g.number c.args.front c.args.occupied c.in-Some.row c.release.new.self c.release.ensures (sym c.if-is_idle.false ∙ c.is_idle.ensures)) ∙ ap (released g.number c.args.front c.args.occupied) (sym at))

pub returns-clause-stays : goal.returns-clause-stays
returns-clause-stays g c = let h = held-some g.number c.args.slot c.args.rows.now.items c.requires in let at = (stood c.args.rows.now.items c.args.slot c.index_mut.result.now c.take.result c.in-Some.row (held-some g.number c.args.slot c.args.rows.now.items c.requires).0 c.index_mut.ensures.value c.take.ensures.value c.in-Some.is) in
    remains g.number c.args.front c.args.occupied c.args.rows.now.items (set (set c.args.rows.now.items c.args.slot c.take.new.self) c.args.slot (Some c.release.new.self)) c.args.slot c.in-Some.row c.release.new.self h.0 at (subst (λ (o : Option Entry). 0 < times_held g.number o) at h.1) c.release.ensures (set-set c.args.rows.now.items c.args.slot c.take.new.self (Some c.release.new.self))
