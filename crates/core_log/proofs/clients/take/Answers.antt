use Rattle.core_log.proofs.Registered.{taken_held, taken_ok, taken_spare}
use Rattle.core_log.proofs.clients.take.Goals as goal

pub returns-clause-registrations : goal.returns-clause-registrations
returns-clause-registrations c = taken_ok c.args.listeners.now.listeners c.take.new.self.listeners c.args.client c.take.result c.take.ensures.ok

pub returns-clause-spare : goal.returns-clause-spare
returns-clause-spare c = taken_spare c.args.ledger.now.spare c.args.listeners.now.listeners c.take.new.self.listeners c.args.client c.take.result c.take.ensures.ok c.take.ensures.err

pub returns-clause-held : goal.returns-clause-held
returns-clause-held c = taken_held c.args.ledger.now c.args.listeners.now.listeners c.take.new.self.listeners c.args.client c.take.result c.requires.held c.take.ensures.ok c.take.ensures.err
