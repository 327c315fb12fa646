use Rattle.text_laws.proofs.RoundTrip.{domain_again}
use Rattle.text_laws.proofs.again.printed_domain_reads_back.Goals as goal

pub returns : goal.returns
returns c = domain_again c.written_reads_back.ensures
