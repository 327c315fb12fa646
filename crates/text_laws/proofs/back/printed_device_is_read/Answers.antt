use Rattle.text_laws.proofs.Devices.{device_back}
use Rattle.text_laws.proofs.back.printed_device_is_read.Goals as goal

pub returns : goal.returns
returns c = device_back
