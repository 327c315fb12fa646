use Rattle.domain_stories.proofs.Staying.{heard_stays, part_stays}
use Rattle.domain_stories.proofs.domain_stage.DomainObjStage.listen.Goals as goal

pub returns : goal.returns
returns g c =
    let a = c.args in
    let r = c.hear.result in
    part_stays a.self.now a.pass r.0 (heard_stays a.pass r.0 r.1 c.hear.ensures.leaves c.requires.free) c.requires
