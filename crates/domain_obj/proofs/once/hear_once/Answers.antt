use Rattle.std.proofs.Common.{Option, refl, sym, subst}
use Rattle.domain_obj.specs.Hearing.{HasHeardOnce}
use Rattle.domain_obj.specs.Lending.{HasLent}
use Rattle.domain_obj.specs.Telling.{IsTold}
use Rattle.domain_obj.specs.declared.lending.Lent.{Lent}
use Rattle.domain_obj.specs.declared.once.Once.{Once}
use Rattle.domain_obj.specs.declared.said.Told.{Told}
use Rattle.domain_obj.proofs.Hearings.{heard_so}
use Rattle.monitor_link.specs.Views.{ears_view}
use Rattle.domain_obj.proofs.once.hear_once.Goals as goal

pub returns-in-Ok-tell_once : goal.returns-in-Ok-tell_once
returns-in-Ok-tell_once g c =
    let after = c.in-Ok-tell_once.after in
    subst (λ (o : Once). HasHeardOnce g.G.E.Ears.ends g.G.E.Ears.faults g.G.E.Ears.unheard c.args.pass after o) (sym c.after_hearing.ensures)
    (heard_so g.G.E.Ears.ends g.G.E.Ears.faults g.G.E.Ears.unheard c.hear-heard.result c.in-Ears.boot (ears_view g.G.E.Ears c.in-Ears.ears) c.args.pass c.in-Ok.between after c.in-Ears.ears c.hear-heard.new.self c.in-Ok-tell_once.seen c.requires.ready
    (subst (λ (l : Lent g.row.G-E.Denot). HasLent g.G.E.Ears c.args.pass c.in-Ok.between l) c.in-Ears.is c.in-Ok.ensures.ok) (record { same_ends = refl; same_faults = refl; same_unheard = refl }) c.hear-heard.ensures.cause c.hear-heard.ensures.unheard
    (subst (λ (t : Option Told). IsTold c.in-Ears.boot t c.in-Ok.between after) c.told_of.ensures c.in-Ok-tell_once.ensures.ok) c.in-Ok-tell_once.ensures.seen)
