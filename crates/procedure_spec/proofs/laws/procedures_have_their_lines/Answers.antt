use Rattle.std.proofs.Common.{refl}
use Rattle.procedure_spec.proofs.LinesAre.{all_lines, each_found}
use Rattle.procedure_spec.proofs.laws.procedures_have_their_lines.Goals as goal

pub returns : goal.returns
returns c = record { remote = refl; own = refl; lines = all_lines; found = each_found }
