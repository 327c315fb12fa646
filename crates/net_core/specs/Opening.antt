-- The networks with which the book is opened: each is inactive and has no leases.
use Rattle.book_spec.specs.declared.book.Network.{Network}
use Rattle.book_spec.specs.Networks.{new_network}
use Rattle.net_core.specs.declared.found.FoundNetwork.{FoundNetwork}

abbrev pub opened : FoundNetwork → Network
opened found = record (new_network found.def) { autostart = found.autostart }
