use Rattle.std.proofs.Common.{ap, ◌∙◌, Option}
use Rattle.domain_spec.specs.Cell.{standing_of}
use Rattle.domain_spec.specs.Reading.{live_boot}
use Rattle.domain_spec.specs.Types.{State}
use Rattle.domain_spec.specs.declared.open.OpenOperation.{OpenOperation}
use Rattle.domain_spec.specs.declared.standing.Standing.{Standing}
use Rattle.core_step_laws.specs.Made.{made_in, makes}
use Rattle.domain_core.proofs.Shown.{force_shown}
use Rattle.domain_core.proofs.turns.DomainTurns.made.Goals as goal

pub returns : goal.returns
returns c =
    let i = c.self.inside in
    let shown = force_shown c.args.self.now i.kept i.queue i.held.items i.ears i.excluded c.self.view_is in
    c.made_of.ensures
    ∙ ap (λ (o : Option OpenOperation). made_in (makes o) (live_boot c.state.result.now)) (c.operation.ensures ∙ ap (λ (s : Standing). s.operation) shown)
    ∙ ap (λ (x : State). made_in (makes (standing_of c.args.self.now.turning.cell).operation) (live_boot x)) (c.state.ensures.state ∙ ap (λ (s : Standing). s.state) shown)
