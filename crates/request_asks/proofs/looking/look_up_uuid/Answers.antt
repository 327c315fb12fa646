use Rattle.request_asks.proofs.Saying.{said_uuid}
use Rattle.request_asks.proofs.looking.look_up_uuid.Goals as goal

pub returns : goal.returns
returns c = said_uuid c.args.uuid
