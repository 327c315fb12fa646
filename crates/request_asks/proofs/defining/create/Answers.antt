use Rattle.std.proofs.Common.{refl, subst, sym}
use Rattle.virt_types.specs.declared.request.Request.TheVariants as request
use Rattle.request_asks.specs.Said.{IsSaid}
use Rattle.request_asks.proofs.Saying.{said_create, text_refused}
use Rattle.request_asks.proofs.defining.create.Goals as goal

pub returns-in-Ok : goal.returns-in-Ok
returns-in-Ok g c =
    let claimed = c.in-Ok.ensures in
    (claimed.0, λ flags. said_create claimed.0 c.args.xml.now flags c.in-Ok.claimed claimed.1, claimed.2)

pub returns-in-Err : goal.returns-in-Err
returns-in-Err g c =
    let refuses = c.in-Err.ensures in
    (refuses.0, λ flags. subst (IsSaid refuses.0 (request.DomainCreateXml c.args.xml.now flags)) (sym c.refused.ensures) (text_refused refuses.0 c.args.xml.now (request.DomainCreateXml c.args.xml.now flags) c.in-Err.why refl refl refuses.1), refuses.2)
