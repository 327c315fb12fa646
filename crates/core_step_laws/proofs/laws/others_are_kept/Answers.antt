use Rattle.core_step_laws.proofs.Shares.{others_are_kept}
use Rattle.core_step_laws.proofs.laws.others_are_kept.Goals as goal

pub returns : goal.returns
returns c = others_are_kept
