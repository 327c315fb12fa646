use Rattle.std.proofs.Common.{[], subst, sym}
use Rattle.virt_types.specs.declared.request.Request.TheVariants as request
use Rattle.request_asks.specs.Said.{IsSaid}
use Rattle.request_asks.proofs.Drawn.{made_of_none}
use Rattle.request_asks.proofs.Saying.{said_task, said_unparsed}
use Rattle.request_asks.proofs.looking.ask_domain.Goals as goal

pub returns-in-Ok : goal.returns-in-Ok
returns-in-Ok g c =
    let made = c.task_of.ensures in
    (made.0, said_task made.0 c.args.domain.now c.args.request.now c.in-Ok.parsed c.task_of.result c.requires c.in-Ok.ensures made.1, made.2)

pub returns-in-Err : goal.returns-in-Err
returns-in-Err g c =
    let r = request.OnDomain c.args.domain.now c.args.request.now in
    made_of_none (λ words. IsSaid words r c.refused.result) _
    (subst (IsSaid [] r) (sym c.refused.ensures) (said_unparsed c.args.domain.now c.args.request.now c.in-Err.why c.in-Err.ensures))
