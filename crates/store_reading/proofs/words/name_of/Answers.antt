use Rattle.store_reading.proofs.Reading.{refused_none}
use Rattle.store_reading.proofs.words.name_of.Goals as goal

pub returns-in-Err-Fault : goal.returns-in-Err-Fault
returns-in-Err-Fault c = refused_none c.args.bytes.now c.in-Err-Fault.field-0 c.in-Err-Fault.field-0-0 c.in-Err-Fault.field-0-is c.in-Err-Fault.ensures.bad
