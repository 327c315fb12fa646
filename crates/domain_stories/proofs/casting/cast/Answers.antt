use Rattle.std.proofs.Common.{arith}
use Rattle.domain_stories.specs.declared.acting.Actor.{Actor}
use Rattle.domain_stories.proofs.Pushed.{one_more}
use Rattle.domain_stories.proofs.casting.cast.Goals as goal

pub loop-role-init : goal.loop-role-init
loop-role-init g c = (c.requires, λ k actor below. absurd (omega (arith, c.new-actors.ensures.len, below)))

pub loop-role-preserved : goal.loop-role-preserved
loop-role-preserved g c = (
  c.cut_off-rest.ensures.home,
  one_more (λ (a : Actor g.row.O-Pass.Denot g.row.D.Denot). g.O.Stage.is_part c.args.stage.now a.pass) c.loop-role.actors.items c.push.new.self.items _ c.in_ok-push.ensures.items c.loop-role.invariant.1 c.cut_off-rest.ensures.part,
)
