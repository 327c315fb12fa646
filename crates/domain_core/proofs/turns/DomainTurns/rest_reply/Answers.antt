use Rattle.std.proofs.Common.{subst}
use Rattle.domain_spec.specs.declared.standing.Standing.{Standing}
use Rattle.core_steps.specs.OfLedger.{IsToldAtEnd}
use Rattle.domain_core.proofs.Shown.{force_shown}
use Rattle.domain_core.proofs.turns.DomainTurns.rest_reply.Goals as goal
use Rattle.core_steps.specs.Resting.{rested_in}

pub returns : goal.returns
returns c =
    let i = c.self.inside in
    let shown = force_shown c.args.self.now i.kept i.queue i.held.items i.ears i.excluded c.self.view_is in
    subst (λ (s : Standing). IsToldAtEnd (rested_in s.operation) c.rest_reply.result) shown c.rest_reply.ensures
