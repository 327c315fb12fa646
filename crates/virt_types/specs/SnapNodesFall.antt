-- Each side of a snapshot has fewer snapshots than the whole.
use Rattle.std.specs.Prelude.{◌≤◌, max, ◌∷◌, length}
use Rattle.std.proofs.Common.{arith, length-append}
use Rattle.virt_types.specs.declared.snap_tree.SnapNode.{SnapNode}
use Rattle.virt_types.specs.declared.snap_tree.SnapNode.TheVariants.{Empty, Around}
use Rattle.virt_types.specs.declared.snap_tree.SnapTree.TheDeep.{deep-SnapNode}
use Rattle.virt_types.specs.SnapNodes.{listed}

-- no side is deeper than there are snapshots
pub depth_le-length-listed : (n : SnapNode) → max (deep-SnapNode n) 0 ≤ length (listed n)
depth_le-length-listed Empty = omega arith
depth_le-length-listed (Around before snap behind) = omega (arith, length-append before.value (snap ∷ behind.value))
