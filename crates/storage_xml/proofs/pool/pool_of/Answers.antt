use Rattle.storage_xml.proofs.Reading.{pool_reads}
use Rattle.storage_xml.proofs.pool.pool_of.Goals as goal

pub returns : goal.returns
returns c =
    pool_reads _ _ _ _ _ _ _ _ _ _ _ c.in-Ok.ensures c.text_called.ensures c.in-Ok-needed_name.ensures c.text_called-2.ensures c.in-Ok-optional_uuid.ensures
    c.first_called.ensures c.in-Ok-optional_size.ensures c.capacity_or_most-capacity.ensures c.path_in.ensures c.in-Ok-needed_text.ensures
