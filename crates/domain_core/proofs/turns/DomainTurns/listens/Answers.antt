use Rattle.std.proofs.Common.{◌≡◌, refl, subst}
use Rattle.event_queue.specs.Listening.{registrations}
use Rattle.domain_core.specs.Core.{Core}
use Rattle.domain_core.proofs.turns.DomainTurns.listens.Goals as goal

pub returns : goal.returns
returns c = subst (λ (v : Core). v.turning.cell.registrations ≡ registrations v.turning.listeners) c.self.view_is refl
