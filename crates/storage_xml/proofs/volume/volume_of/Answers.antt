use Rattle.storage_xml.proofs.Reading.{volume_reads}
use Rattle.storage_xml.proofs.volume.volume_of.Goals as goal

pub returns-in-Ok-format_in : goal.returns-in-Ok-format_in
returns-in-Ok-format_in c =
    volume_reads _ _ _ _ _ _ _ _ _ c.text_called.ensures c.in-Ok.ensures c.first_called.ensures c.in-Ok-needed_size.ensures
    c.first_called-2.ensures c.in-Ok-optional_size.ensures c.unwrap_or-allocation.ensures c.in-Ok-format_in.ensures
