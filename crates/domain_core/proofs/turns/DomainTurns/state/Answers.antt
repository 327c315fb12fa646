use Rattle.std.proofs.Common.{ap, ◌∙◌}
use Rattle.domain_spec.specs.declared.standing.Standing.{Standing}
use Rattle.domain_core.proofs.Shown.{force_shown}
use Rattle.domain_core.proofs.turns.DomainTurns.state.Goals as goal

pub returns : goal.returns
returns c =
    let i = c.self.inside in
    c.state.ensures.state ∙ ap (λ (s : Standing). s.state) (force_shown c.args.self.now i.kept i.queue i.held.items i.ears i.excluded c.self.view_is)
