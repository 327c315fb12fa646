use Rattle.text_laws.proofs.DomainFaults.{domain_read_back}
use Rattle.text_laws.proofs.back.printed_domain_is_read.Goals as goal

pub returns : goal.returns
returns c = domain_read_back
