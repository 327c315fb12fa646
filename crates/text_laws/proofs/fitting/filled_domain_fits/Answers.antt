use Rattle.text_laws.proofs.Filled.{domain_unfilled_fits, domain_filled_fits, domain_filled_again}
use Rattle.text_laws.proofs.fitting.filled_domain_fits.Goals as goal

pub returns : goal.returns
returns c = record { as_it_stands = domain_unfilled_fits; filled = domain_filled_fits; filled_again = domain_filled_again }
