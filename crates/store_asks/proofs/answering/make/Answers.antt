use Rattle.std.proofs.Common.{sym, subst}
use Rattle.virt_types.specs.declared.answer.Answer.{Answer}
use Rattle.store_asks.specs.Told.{ChangeTells}
use Rattle.store_asks.proofs.Telling.{change_tells}
use Rattle.store_asks.proofs.answering.make.Goals as goal

pub returns-clause-told : goal.returns-clause-told
returns-clause-told g c =
    subst (λ (a : Answer). ChangeTells c.args.turn.now.pass.number c.args.change a c.change_in.new.turn.value.history) (sym c.change_answer.ensures)
    (change_tells _ _ _ _ _ _ _ c.change_in.result c.change_in.ensures.front c.change_in.ensures.marks)
