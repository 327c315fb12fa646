use Rattle.std.proofs.Common.{arith}
use Rattle.std.proofs.lemmas.Grind.{common_steps}
use Rattle.markup.proofs.Characters.{is_char-scalar}
use Rattle.markup.proofs.reference.character.Goals as goal

pub returns-in_default-2 : goal.returns-in_default-2
returns-in_default-2 c = grind (arith, common_steps, is_char-scalar c.args.number, c.in_default.ensures)
