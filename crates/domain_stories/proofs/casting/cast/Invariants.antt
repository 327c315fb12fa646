use Rattle.std.proofs.Common.{All}
use Rattle.domain_stories.proofs.casting.cast.Given as goal

abbrev pub invariant-loop-role : goal.invariant-loop-role
invariant-loop-role g l = g.O.Stage.is_home l.stage l.home.pass l.home.out × All (λ actor. g.O.Stage.is_part l.stage actor.pass) l.actors.items
