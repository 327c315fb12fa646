use Rattle.driver_open.proofs.Firsts.{domain_is_idle}
use Rattle.driver_open.proofs.Slotted.{pushed}
use Rattle.driver_cells.specs.OfCells.{new_cell}
use Rattle.driver_open.proofs.slots.push.Goals as goal

pub new-pass-requires : goal.new-pass-requires
new-pass-requires g c = domain_is_idle c.args.stored c.args.autostart c.in_ok-domain.pass c.in_ok-domain.ensures.pass

pub returns : goal.returns
returns g c = pushed (new_cell c.args.stored c.args.autostart) c.args.slots.now.domains c.push.new.self c.args.slots.now.passes c.push-2.new.self c.in_ok-domain.domain c.in_ok-domain.pass c.new-pass.result c.new-pass.ensures
    c.in_ok-domain.ensures.cell c.in_ok-domain.ensures.pass (domain_is_idle c.args.stored c.args.autostart c.in_ok-domain.pass c.in_ok-domain.ensures.pass) c.in_ok-push.ensures.ok c.in_ok-push-2.ensures.ok
