use Rattle.std.proofs.Common.{◌∙◌, ap}
use Rattle.uuid.specs.Text.{parsed}
use Rattle.xml_tables.proofs.RowsParsed.{nothing_read}
use Rattle.xml_tables.proofs.values.uuid_of.Goals as goal

pub returns-in-Err : goal.returns-in-Err
returns-in-Err c =
    nothing_read c.in-Err.field-0 (parsed c.as_str.result.now) c.in-Err.ensures.ok ∙ ap parsed c.as_str.ensures.value
