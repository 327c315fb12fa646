use Rattle.std.proofs.Common.{◌≡◌, map, not, take}
use Rattle.domain_spec.specs.Snapshots.{comes_from}
use Rattle.snapshot_core.proofs.deletion.flags.Given as goal

-- the flags of the snapshots before this place
abbrev pub invariant-loop-place : goal.invariant-loop-place
invariant-loop-place l = l.flags.items ≡ take l.place (map (λ snap. not (comes_from l.snaps l.name snap)) l.snaps)
