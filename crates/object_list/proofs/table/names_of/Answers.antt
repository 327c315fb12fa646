use Rattle.std.proofs.Common.{◌∙◌, ap, refl, get_or, ℕ}
use Rattle.book_spec.specs.Slots.{entry_in}
use Rattle.object_list.specs.Names.{row_of}
use Rattle.object_list.proofs.Naming.{more_rows, none_there, one_there}
use Rattle.object_list.proofs.table.names_of.Goals as goal
use Rattle.object_list.proofs.table.names_of.Goals.{in-None, in-Some+in_ok-push-in-Some}

pub loop-slot-preserved : goal.loop-slot-preserved
loop-slot-preserved c =
    let x : ℕ = get_or c.args.slots.now c.loop-slot.slot-index 0 in
    let row = row_of x (entry_in c.args.rows.now x) in
    elim c.match-branch-3.branch [
      | in-None w ↦ more_rows c.args.rows.now c.args.slots.now c.loop-slot.slot-index x c.loop-slot.names.items c.match-branch-3.names.items c.loop-slot-test.true refl c.loop-slot.invariant
          (none_there c.loop-slot.names.items c.match-branch-3.names.items row c.in_ok-name_in.field-0 (ap (λ v. v.items) w.names-is) w.in-None.is c.in_ok-name_in.ensures)
      | in-Some+in_ok-push-in-Some w ↦ more_rows c.args.rows.now c.args.slots.now c.loop-slot.slot-index x c.loop-slot.names.items c.match-branch-3.names.items c.loop-slot-test.true refl c.loop-slot.invariant
          (one_there c.loop-slot.names.items c.match-branch-3.names.items row c.in_ok-name_in.field-0 w.in-Some.name (ap (λ v. v.items) w.names-is ∙ w.in_ok-push-in-Some.ensures.items) w.in-Some.is c.in_ok-name_in.ensures)
    ]
