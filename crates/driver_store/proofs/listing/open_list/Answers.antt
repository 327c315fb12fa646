use Rattle.std.proofs.Common.{subst, sym}
use Rattle.object_list.specs.Opening.{CanOpen}
use Rattle.driver_store.proofs.Listed.{can_open}
use Rattle.driver_store.proofs.listing.open_list.Goals as goal

pub open-requires : goal.open-requires
open-requires c = subst CanOpen (sym c.in_ok-told.ensures) (can_open c.args.domains.now c.requires.few c.requires.names c.requires.uuids)
