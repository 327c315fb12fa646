-- Trees that can be written where their text is short enough.
use Rattle.std.specs.Prelude.{◌≤◌}
use Rattle.text_spec.specs.Text.{most_levels, most_elements}
use Rattle.text_spec.specs.Tree.{Tree}
use Rattle.text_spec.specs.Writable.{IsTree, size}

-- all that `IsWritable` says, but for the length of the text
pub record IsFormed (t : Tree) : Type 0 where
  pub tree : IsTree most_levels t
  pub elements : size t ≤ most_elements
