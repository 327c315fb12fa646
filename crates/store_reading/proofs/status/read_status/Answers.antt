use Rattle.store_reading.proofs.Reading.{map_ok}
use Rattle.store_reading.proofs.Telling.{no_line, told_so}
use Rattle.store_reading.proofs.status.read_status.Goals as goal

pub returns-in-Some-line_of : goal.returns-in-Some-line_of
returns-in-Some-line_of c = map_ok c.status_of.result (λ x is. told_so c.args.name.now c.args.bytes.now c.in-Some.uuid c.in-Some-line_of.line x c.in-Some.ensures c.in-Some-line_of.ensures is) c.status_of.ensures

pub returns-in-None-line_of : goal.returns-in-None-line_of
returns-in-None-line_of c = no_line c.args.name.now c.args.bytes.now c.in-None-line_of.ensures
