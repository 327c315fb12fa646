use Rattle.std.proofs.Common.{◌≡◌, None, sym, ap, ◌∙◌, subst}
use Rattle.domain_spec.specs.declared.standing.Standing.{Standing}
use Rattle.core_flight.specs.Ledger.{Ledgered, now_in}
use Rattle.core_flight.proofs.Histories.{in_shown}
use Rattle.core_flight.proofs.ledger.Ledger.state.Goals as goal

pub returns-clause-state : goal.returns-clause-state
returns-clause-state c =
    subst (λ (v : Ledgered). c.state.result.now ≡ (now_in v).state) c.self.view_is
    (c.state.ensures.state ∙ ap (λ (s : Standing). s.state) (sym (in_shown c.self.inside.chapter)))

pub returns-clause-lost : goal.returns-clause-lost
returns-clause-lost c =
    subst (λ (v : Ledgered). (now_in v).lost ≡ None) c.self.view_is (ap (λ (s : Standing). s.lost) (in_shown c.self.inside.chapter) ∙ c.state.ensures.lost)
