use Rattle.std.proofs.Common.{[], subst, sym}
use Rattle.request_asks.specs.Said.{IsSaid}
use Rattle.request_asks.proofs.Saying.{said_unbuilt}
use Rattle.request_asks.proofs.words.not_built.Goals as goal

pub returns : goal.returns
returns c = subst (IsSaid [] c.args.request.now) (sym c.refused.ensures) (said_unbuilt c.args.request.now c.refuse_procedure.result c.requires c.refuse_procedure.ensures)
