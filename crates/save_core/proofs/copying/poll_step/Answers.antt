use Rattle.std.proofs.Common.{rules, option_map, Bor}
use Rattle.domain_spec.specs.Types.{AnswerValue}
use Rattle.save_core.proofs.Polls.{polled}
use Rattle.save_core.proofs.copying.poll_step.Goals as goal

-- it is given up neither way
pub returns-else-is_stalled : goal.returns-else-is_stalled
returns-else-is_stalled c =
    λ d. polled d c.args.op.now (option_map {T = Bor AnswerValue} {U = AnswerValue} (λ v. v.now) c.args.value) _ _ _ _ (search rules) (search rules) (c.poll_done.ensures d)
