use Rattle.std.proofs.Common.{Option, sym, ap, ◌∙◌}
use Rattle.domain_spec.specs.Cell.{standing_of}
use Rattle.domain_spec.specs.Open.{operation_held}
use Rattle.domain_spec.specs.declared.open.OpenOperation.{OpenOperation}
use Rattle.domain_spec.specs.declared.standing.Standing.{Standing}
use Rattle.domain_core.proofs.Shown.{force_shown, held_occupied, none_occupied, rest_occupied}
use Rattle.domain_core.proofs.turns.DomainTurns.occupied.Goals as goal

pub returns-in-Held : goal.returns-in-Held
returns-in-Held c =
    let i = c.self.inside in
    let shown = force_shown c.args.self.now i.kept i.queue i.held.items i.ears i.excluded c.self.view_is in
    held_occupied (standing_of c.args.self.now.turning.cell) c.in-Held.field-0
    (sym (c.state.ensures.state ∙ ap (λ (s : Standing). s.state) shown) ∙ c.in-Held.is)

pub returns-in-Some : goal.returns-in-Some
returns-in-Some c =
    let i = c.self.inside in
    let shown = force_shown c.args.self.now i.kept i.queue i.held.items i.ears i.excluded c.self.view_is in
    rest_occupied (standing_of c.args.self.now.turning.cell) c.in-Vacant.boots c.in-Some.operation
    (sym (c.state.ensures.state ∙ ap (λ (s : Standing). s.state) shown) ∙ c.in-Vacant.is)
    (sym (c.operation_held.ensures ∙ ap (λ (o : Option OpenOperation). operation_held o) (c.operation.ensures ∙ ap (λ (s : Standing). s.operation) shown)) ∙ c.in-Some.is)

pub returns-in-None : goal.returns-in-None
returns-in-None c =
    let i = c.self.inside in
    let shown = force_shown c.args.self.now i.kept i.queue i.held.items i.ears i.excluded c.self.view_is in
    none_occupied (standing_of c.args.self.now.turning.cell) c.in-Vacant.boots
    (sym (c.state.ensures.state ∙ ap (λ (s : Standing). s.state) shown) ∙ c.in-Vacant.is)
    (sym (c.operation_held.ensures ∙ ap (λ (o : Option OpenOperation). operation_held o) (c.operation.ensures ∙ ap (λ (s : Standing). s.operation) shown)) ∙ c.in-None.is)
