use Rattle.std.proofs.Common.{sym, subst}
use Rattle.store_spec.specs.declared.change.Change.{Change}
use Rattle.virt_types.specs.declared.ask.Ask.{Ask}
use Rattle.store_asks.specs.Told.{ChangeTells, Tells}
use Rattle.store_asks.proofs.Telling.{drop_tells, put_tells}
use Rattle.store_asks.proofs.answering.answer_in.Goals as goal

pub returns-in-Ok-clause-told : goal.returns-in-Ok-clause-told
returns-in-Ok-clause-told g c =
    subst (λ (q : Ask). Tells c.args.turn.now.pass.number q c.make.result c.make.new.turn.value.history) (sym c.in-Put.is)
    (put_tells c.args.turn.now.pass.number c.in-Put.definition c.in-Put.autostart c.make.result c.make.new.turn.value.history
    (subst (λ (x : Change). ChangeTells c.args.turn.now.pass.number x c.make.result c.make.new.turn.value.history) (rw c.as_ref.ensures at c.in-Ok.ensures.change) c.make.ensures.told))

pub returns-in-Drop-clause-told : goal.returns-in-Drop-clause-told
returns-in-Drop-clause-told g c =
    subst (λ (q : Ask). Tells c.args.turn.now.pass.number q c.make-in-Drop.result c.make-in-Drop.new.turn.value.history) (sym c.in-Drop.is)
    (drop_tells c.args.turn.now.pass.number c.in-Drop.uuid c.make-in-Drop.result c.make-in-Drop.new.turn.value.history c.make-in-Drop.ensures.told)
