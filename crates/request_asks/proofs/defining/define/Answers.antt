use Rattle.std.proofs.Common.{refl, subst, sym}
use Rattle.virt_types.specs.declared.request.Request.TheVariants as request
use Rattle.request_asks.specs.Said.{IsSaid}
use Rattle.request_asks.proofs.Saying.{said_define, text_refused}
use Rattle.request_asks.proofs.defining.define.Goals as goal

pub returns-in-Ok : goal.returns-in-Ok
returns-in-Ok g c =
    let claimed = c.in-Ok.ensures in
    (claimed.0, said_define claimed.0 c.args.xml.now c.in-Ok.claimed claimed.1, claimed.2)

pub returns-in-Err : goal.returns-in-Err
returns-in-Err g c =
    let refuses = c.in-Err.ensures in
    (refuses.0, subst (IsSaid refuses.0 (request.DomainDefineXml c.args.xml.now)) (sym c.refused.ensures) (text_refused refuses.0 c.args.xml.now (request.DomainDefineXml c.args.xml.now) c.in-Err.why refl refl refuses.1), refuses.2)
