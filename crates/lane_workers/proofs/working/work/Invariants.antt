use Rattle.lane_workers.specs.Steps.{SoFar}
use Rattle.lane_workers.specs.Working.{MayWork}
use Rattle.lane_workers.proofs.working.work.Given as goal

abbrev pub invariant-loop : goal.invariant-loop
invariant-loop g l = record {
  so_far : SoFar (g.D.Answers.has_answered l.service) l.fn.worker l.worker;
  may : MayWork g.D.Answers.is_row l.service l.out l.worker;
}
