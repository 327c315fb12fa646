use Rattle.text_laws.proofs.Filled.{device_unfilled_fits, device_filled_fits, device_filled_again}
use Rattle.text_laws.proofs.fitting.filled_device_fits.Goals as goal

pub returns : goal.returns
returns c = record { as_it_stands = device_unfilled_fits; filled = device_filled_fits; filled_again = device_filled_again }
