use Rattle.std.proofs.Common.{ap, ◌∙◌}
use Rattle.domain_spec.specs.Reading.{is_live}
use Rattle.domain_spec.specs.declared.standing.Standing.{Standing}
use Rattle.domain_core.proofs.Shown.{force_shown}
use Rattle.domain_core.proofs.Others.{return_others}
use Rattle.domain_core.proofs.turns.DomainTurns.return_ears.Goals as goal

pub returns-clause-live : goal.returns-clause-live
returns-clause-live c =
    let i = c.self.inside in
    c.take_back.ensures.live ∙ ap (λ (s : Standing). is_live s.state c.args.boot) (force_shown c.args.self.now i.kept i.queue i.held.items i.ears i.excluded c.self.view_is)

pub returns-clause-others : goal.returns-clause-others
returns-clause-others c =
    let a = c.args in
    let i = c.self.inside in
    return_others a.self.now i.kept i.queue i.held.items i.ears c.take_back.new.ears i.excluded a.by.number a.boot c.self.view_is c.requires.own c.take_back.ensures.ears
