use Rattle.domain_spec.proofs.EndsOnce.{ends_once}
use Rattle.domain_spec.proofs.laws.each_boot_ends_once.Goals as goal

pub returns : goal.returns
returns c = ends_once
