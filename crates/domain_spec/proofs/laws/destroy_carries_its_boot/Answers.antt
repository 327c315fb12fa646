use Rattle.domain_spec.proofs.CarriedProofs.{destroy_carries_its_boot}
use Rattle.domain_spec.proofs.laws.destroy_carries_its_boot.Goals as goal

pub returns : goal.returns
returns c = destroy_carries_its_boot
