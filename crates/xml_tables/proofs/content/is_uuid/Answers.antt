use Rattle.std.proofs.Common.{◌∙◌, ap}
use Rattle.std.specs.Prelude.{is_some}
use Rattle.uuid.specs.Text.{parsed}
use Rattle.xml_tables.proofs.Parsed.{is_ok_parsed}
use Rattle.xml_tables.proofs.content.is_uuid.Goals as goal

pub returns : goal.returns
returns c =
    c.is_ok.ensures.value
    ∙ is_ok_parsed c.parse_str.result (parsed c.as_str.result.now) c.parse_str.ensures.ok
    ∙ ap (λ t. is_some (parsed t)) c.as_str.ensures.value
