use Rattle.monitor_link.specs.Views.{guest_of}
use Rattle.monitor_link.proofs.guest.said_guest.Given as goal

abbrev pub ghost-named_as : goal.ghost-named_as
ghost-named_as a = guest_of a._definition.now a._boot
