use Rattle.virt_types.specs.declared.call.Query.TheVariants as query
use Rattle.domain_stories.proofs.Staying.{part_stays, queried_stays}
use Rattle.domain_stories.proofs.domain_stage.DomainObjStage.look.Goals as goal

pub returns : goal.returns
returns g c =
    let a = c.args in
    let r = c.query.result in
    part_stays a.self.now a.pass r.0 (queried_stays query.Info a.pass r.0 r.1 c.query.ensures c.requires.free) c.requires
