use Rattle.std.proofs.Common.{◌≡◌, sym, ap, ◌∙◌, subst}
use Rattle.domain_spec.specs.declared.standing.Standing.{Standing}
use Rattle.core_flight.specs.Ledger.{Ledgered, now_in}
use Rattle.core_flight.proofs.Histories.{in_shown}
use Rattle.core_flight.proofs.ledger.Ledger.job.Goals as goal

pub returns : goal.returns
returns c =
    subst (λ (v : Ledgered). c.job.result.now ≡ (now_in v).job) c.self.view_is
    (c.job.ensures ∙ ap (λ (s : Standing). s.job) (sym (in_shown c.self.inside.chapter)))
