-- Of files in memory, of which there are none yet, nothing is in doubt.
use Rattle.std.proofs.Common.{List, [], Some, refl}
use Rattle.def_keeper.specs.Opened.{IsSureAt}
use Rattle.store_spec.specs.Directory.{files_after}

pub none_are_sure : IsSureAt (Some [])
unfolding files_after
none_are_sure = ([], refl, λ n name. tt)
