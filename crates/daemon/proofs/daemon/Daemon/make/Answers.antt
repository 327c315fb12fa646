use Rattle.std.proofs.Common.{subst}
use Rattle.daemon.specs.Daemon.{DaemonView}
use Rattle.daemon.specs.Starting.{HasMade, first_call}
use Rattle.daemon.proofs.Rows.{stands_still}
use Rattle.service_spec.specs.Activities.{hand}
use Rattle.daemon.proofs.daemon.Daemon.make.Goals as goal

pub invariant_of-daemon : goal.invariant_of-daemon
invariant_of-daemon g c = stands_still c.self.inside.driver c.self.inside.row c.make_all-row.result.0 c.self.invariant c.make_all-row.ensures.parts c.make_all-row.ensures.own c.make_all-row.ensures.ready

pub returns-clause-made : goal.returns-clause-made
returns-clause-made g c =
    subst (λ (d : DaemonView _). HasMade g.F.Files.told g.F.Files.faults g.G.Guests.faults g.G.E.Ears.ends g.G.E.Ears.faults g.G.E.Ears.unheard (first_call 0) c.args.requests.now c.make_all-row.result.1.items
    (hand d.row (g.R.Random.drawn c.args.random.now)) (hand c.make_all-row.result.0 (g.R.Random.drawn c.make_all-row.new.random)))
    c.self.view_is c.make_all-row.ensures.made
