use Rattle.core_mark_laws.proofs.OwnGuests.{mark_keeps_guests}
use Rattle.core_mark_laws.proofs.laws.every_mark_keeps_guests.Goals as goal

pub returns : goal.returns
returns c = mark_keeps_guests
