use Rattle.std.proofs.Common.{is_some, Option, ap, ◌∙◌}
use Rattle.domain_spec.specs.declared.open.OpenJob.{OpenJob}
use Rattle.domain_spec.specs.declared.standing.Standing.{Standing}
use Rattle.domain_core.proofs.Shown.{force_shown}
use Rattle.domain_core.proofs.turns.DomainTurns.has_job.Goals as goal

pub returns : goal.returns
returns c =
    let i = c.self.inside in
    let shown = force_shown c.args.self.now i.kept i.queue i.held.items i.ears i.excluded c.self.view_is in
    c.is_open.ensures ∙ ap (λ (o : Option OpenJob). is_some o) (c.job.ensures ∙ ap (λ (s : Standing). s.job) shown)
