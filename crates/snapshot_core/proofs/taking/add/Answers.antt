use Rattle.std.proofs.Common.{◌∙◌, Some, ap, sym}
use Rattle.virt_types.proofs.RisingSnaps.{with_snapshot_at}
use Rattle.snapshot_core.proofs.taking.add.Goals as goal

-- the snapshot is put at its place
pub returns : goal.returns
returns c =
    ap (λ snaps. record c.args.domain.now { snaps = snaps; current = Some c.args.current }) (c.put.ensures ∙ sym (with_snapshot_at c.args.domain.now.snaps c.args.new))
