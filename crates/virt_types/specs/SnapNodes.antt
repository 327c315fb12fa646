-- What a part of the tree of snapshots is seen as.
use Rattle.std.specs.Prelude.{List, [], ◌∷◌, ◌++◌}
use Rattle.virt_types.specs.declared.domain.Snap.{Snap}
use Rattle.virt_types.specs.declared.snap_tree.SnapNode.{SnapNode}
use Rattle.virt_types.specs.declared.snap_tree.SnapNode.TheVariants.{Empty, Around}

-- the snapshots in order
abbrev pub listed : SnapNode → List Snap
listed Empty = []
listed (Around before snap behind) = before.value ++ snap ∷ behind.value
