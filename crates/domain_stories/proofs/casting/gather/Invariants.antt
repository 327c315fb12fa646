use Rattle.std.proofs.Common.{All, vec_len}
use Rattle.domain_stories.proofs.casting.gather.Given as goal

abbrev pub decreases-loop-one : goal.decreases-loop-one
decreases-loop-one g l = vec_len l.all

abbrev pub invariant-loop-one : goal.invariant-loop-one
invariant-loop-one g l = g.O.Stage.is_home l.stage l.home.pass l.home.out × All (λ one. g.O.Stage.is_part l.stage one.pass) l.all.items
