use Rattle.std.proofs.Common.{◌≡◌, map, take}
use Rattle.pool_core.proofs.volumes.names_of.Given as goal

abbrev pub invariant-loop-volume : goal.invariant-loop-volume
invariant-loop-volume l = l.names.items ≡ map (λ volume. volume.name) (take l.volume-index l.volumes)
