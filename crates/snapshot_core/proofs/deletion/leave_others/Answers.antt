use Rattle.std.proofs.Common.{◌∙◌, ap, not}
use Rattle.virt_types.specs.Snapshots.{kept_by}
use Rattle.domain_spec.specs.Snapshots.{is_named}
use Rattle.snapshot_core.proofs.DeletionProofs.{enough_copies, flagged_stay}
use Rattle.snapshot_core.proofs.deletion.leave_others.Goals as goal

pub adopt-requires-clause-enough : goal.adopt-requires-clause-enough
adopt-requires-clause-enough c =
    rw (c.remove.ensures) (enough_copies c.in-Adopted.copies c.args.snaps.now c.args.name.now c.args.children (λ s. not (is_named c.args.name.now s)) (rw c.in-Adopted.is at c.requires.others))

pub returns-in-Flagged : goal.returns-in-Flagged
returns-in-Flagged c =
    c.keep.ensures ∙ ap (kept_by c.args.snaps.now) c.as_slice.ensures ∙ flagged_stay c.in-Flagged.flags c.args.snaps.now c.args.name.now c.args.children (rw c.in-Flagged.is at c.requires.others)
