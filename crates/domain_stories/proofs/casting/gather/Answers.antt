use Rattle.std.proofs.lemmas.List.Elements.{All-pop}
use Rattle.domain_stories.specs.declared.acting.Actor.{Actor}
use Rattle.domain_stories.proofs.casting.gather.Goals as goal

pub loop-one-preserved : goal.loop-one-preserved
loop-one-preserved g c = (
  c.take_back-home.ensures,
  (All-pop (λ (one : Actor g.row.O-Pass.Denot g.row.D.Denot). g.O.Stage.is_part c.args.stage.now one.pass) c.loop-one.all.items c.pop.new.self.items c.pop.result c.pop.ensures.items c.loop-one.invariant.1).0,
)
