use Rattle.std.proofs.Common.{◌+◌}
use Rattle.guest_model.proofs.link.one_more.Given as goal

abbrev pub ghost-after : goal.ghost-after
ghost-after a = a._kills.now.value + 1
