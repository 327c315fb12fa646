-- A phase of an operation that was let in and waits for an answer.
use Rattle.std.specs.Prelude.{◌≡◌, ℕ, length, true, false, Option, Some}
use Rattle.std.specs.List.{list_any}
use Rattle.domain_spec.specs.Types.{Phase, State}
use Rattle.domain_spec.specs.declared.open.OpenJob.{OpenJob}
use Rattle.domain_spec.specs.declared.open.OpenOperation.{OpenOperation}
use Rattle.domain_spec.specs.declared.step.Outcome.TheVariants as outcome
use Rattle.domain_spec.specs.Asks.{asks_left, asks_made, is_ended_answer}
use Rattle.domain_spec.specs.Cell.{planned_at}
use Rattle.domain_spec.specs.Lawful.{IsNested}
use Rattle.domain_spec.specs.Phase.{plan_in}
use Rattle.domain_spec.specs.Reading.{live_boot}
use Rattle.core_rules.specs.Next.{is_ask, next_of}
use Rattle.core_plan.specs.Along.{Asked}
use Rattle.core_plan.specs.Away.{NoneSince}

-- what it asks was planned where its boot was live, by what it was answered so far
pub record IsPhaseAway (s : State) (o : OpenOperation) (j : OpenJob) (a : Asked) : Type 0 where
  pub nested : IsNested j o j.number o.who
  pub phase : Phase
  pub due : o.outcome ≡ outcome.On phase
  pub boot : ℕ
  pub operated : o.boot ≡ Some boot
  pub carried : j.boot ≡ Some boot
  pub was_live : live_boot (planned_at s j) ≡ Some boot
  pub ended : NoneSince j.before s
  pub plan : a.plan ≡ plan_in (planned_at s j) o.call a.answers
  pub waits : is_ask (next_of (asks_left a.plan a.answers)) ≡ true
  pub asked : length (asks_made a.plan a.answers) ≡ length a.answers
  pub none_ended : list_any is_ended_answer a.answers ≡ false
