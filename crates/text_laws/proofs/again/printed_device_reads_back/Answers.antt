use Rattle.text_laws.proofs.RoundTrip.{device_again}
use Rattle.text_laws.proofs.again.printed_device_reads_back.Goals as goal

pub returns : goal.returns
returns c = device_again c.written_reads_back.ensures
