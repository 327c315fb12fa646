use Rattle.driver_service.proofs.Below.driver_close.OneRow.{opened_whole}
use Rattle.daemon.proofs.daemon.Daemon.open.Goals as goal

pub invariant_of-result : goal.invariant_of-result
invariant_of-result g c = (
  c.in-Ok-open.ensures.own,
  c.in-Ok-open.ensures.ready,
  opened_whole g.F.Files.told c.args.files _ _ _ c.in-Ok-open.ensures.ok,
  c.in-Ok.ensures.list,
  c.in-Ok.ensures.room,
)
