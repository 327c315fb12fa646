use Rattle.std.proofs.Common.{arith}
use Rattle.virt_types.specs.Below.types_base.Refusal.{kept_cut}
use Rattle.driver_lists.proofs.titles.title_row.Goals as goal

pub returns : goal.returns
unfolding kept_cut
returns c = grind (arith, c.in_ok-copy.ensures, c.in_ok-copy_of.ensures, c.range.ensures.value, c.kept_length.ensures.place, c.as_str-title.ensures.value)
