use Rattle.store_reading.proofs.Telling.{number_else, number_uncut}
use Rattle.store_reading.proofs.status.numbered.Goals as goal

pub returns-in-None-number_of : goal.returns-in-None-number_of
returns-in-None-number_of c = number_else c.args.label.now c.args.bytes.now c.in-Some.rest.now c.in-Some-cut.digits.now c.in-Some-cut.rest.now c.in-Some.ensures c.in-Some-cut.ensures.0 c.in-Some-cut.ensures.1 c.in-None-number_of.ensures

pub returns-in-None-cut : goal.returns-in-None-cut
returns-in-None-cut c = number_uncut c.args.label.now c.args.bytes.now c.in-Some.rest.now c.in-Some.ensures c.in-None-cut.ensures
