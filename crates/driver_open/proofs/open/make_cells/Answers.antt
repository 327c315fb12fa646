use Rattle.std.proofs.Common.{◌∙◌, ◌≤◌, List, ap, length, subst, sym}
use Rattle.def_keeper.specs.Keeper.{Keeping}
use Rattle.def_keeper.specs.Marks.{StoreHistory}
use Rattle.def_keeper.specs.Safe.{KeepsAll}
use Rattle.driver_store.specs.Below.found_domains.declared.found.FoundDomain.{FoundDomain}
use Rattle.driver_open.specs.Cells.{IsFirstRow}
use Rattle.driver_open.proofs.Firsts.{list_is_idle}
use Rattle.driver_open.proofs.Made.{first_row}
use Rattle.driver_open.proofs.open.make_cells.Goals as goal

pub joined-requires-clause-list : goal.joined-requires-clause-list
joined-requires-clause-list g c = list_is_idle c.as_slice.result.now c.in-Ok.parts.list_pass (subst (λ (ds : List FoundDomain). length ds ≤ 256) (sym c.as_slice.ensures) c.requires.few) c.in-Ok.ensures.list

pub returns-in-Ok-new_at-clause-first : goal.returns-in-Ok-new_at-clause-first
returns-in-Ok-new_at-clause-first g c =
    let told = g.F.Files.told in
    let parts = c.in-Ok.parts in
    let found = c.as_slice.result.now in
    let kept = c.args.store.keeper in
    let row = c.joined.result.row in
    subst (λ (ds : List FoundDomain). IsFirstRow told ds kept row) c.as_slice.ensures
    (first_row parts.list_pass c.in-Ok-new_at.pass parts.slots.passes c.args.guests row c.joined.ensures.row told found kept parts.slots.domains (subst (λ (ds : List FoundDomain). length ds ≤ 256) (sym c.as_slice.ensures) c.requires.few)
    c.in-Ok.ensures.list c.in-Ok-new_at.ensures.pass c.in-Ok.ensures.slots)

pub returns-clause-safe : goal.returns-clause-safe
returns-clause-safe g c =
    let left = c.close-files-in-Err-new_at in
    λ sound. subst (λ (h : StoreHistory). KeepsAll (g.F.Files.told left.result.0) h) (left.ensures.history ∙ ap (λ (k : Keeping _). k.history) c.in-Err-new_at.ensures.err) (left.ensures.crash sound)
