use Rattle.core_mark_laws.proofs.TidyCalls.{opened_tidy}
use Rattle.core_mark_laws.proofs.laws.opened_is_tidy.Goals as goal

pub returns : goal.returns
returns c = opened_tidy
