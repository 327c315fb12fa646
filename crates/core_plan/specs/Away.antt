-- A call that was let in and waits for an answer.
use Rattle.std.specs.Prelude.{◌≡◌, ℕ, length, Bool, true, false, Option, None, Some}
use Rattle.std.specs.List.{list_any}
use Rattle.domain_spec.specs.Types.{State}
use Rattle.domain_spec.specs.declared.open.OpenJob.{OpenJob}
use Rattle.domain_spec.specs.declared.open.OpenOperation.{OpenOperation}
use Rattle.domain_spec.specs.Asks.{asks_left, asks_made, is_ended_answer}
use Rattle.domain_spec.specs.Call.{begins, is_on_stored, job_of, takes_up}
use Rattle.domain_spec.specs.Cell.{planned_at}
use Rattle.domain_spec.specs.Lawful.{IsUnsentUntilMade}
use Rattle.domain_spec.specs.Reading.{live_boot}
use Rattle.domain_spec.specs.Sequential.{meets_ended}
use Rattle.core_rules.specs.Next.{is_ask, next_of}
use Rattle.core_plan.specs.Along.{Asked}
use Rattle.core_mark_laws.specs.Tidy.{planned}

-- a boot that ended while its call was away is not followed by another before the call is done
abbrev pub NoneSince : Option State → State → Type 0
NoneSince None s = Unit {0}
NoneSince (Some before) s = live_boot s ≡ None

-- until a boot is made its commands are not sent
abbrev pub IsUnsent : Option OpenOperation → OpenJob → Asked → Type 0
IsUnsent o j a = IsUnsentUntilMade o j.boot (asks_made a.plan a.answers) a.answers

-- a call on a guest: its boot was live where it was planned
pub record IsOnGuest (s : State) (j : OpenJob) : Type 0 where
  pub boot : ℕ
  pub carried : j.boot ≡ Some boot
  pub was_live : live_boot (planned_at s j) ≡ Some boot
  pub ended : NoneSince j.before s

-- a call on the stored definition, or one on a guest
abbrev pub IsOfKind : Bool → State → OpenJob → Type 0
IsOfKind true s j = Unit {0}
IsOfKind false s j = IsOnGuest s j

-- a call waits for an answer: what it asks was planned in this state, or where its boot has ended in the
-- one just before; while its boot is live, or where it is on the stored definition, it is what it would
-- plan in the present state
pub record IsAway (s : State) (o : Option OpenOperation) (j : OpenJob) (a : Asked) : Type 0 where
  pub own : j.job ≡ job_of j.call
  pub begins_none : begins j.call ≡ None
  pub takes_none : takes_up j.call ≡ None
  pub kind : IsOfKind (is_on_stored j.call) s j
  pub plan : a.plan ≡ planned (planned_at s j) j.call j.boot
  pub now : meets_ended s j.call j.boot ≡ false → a.plan ≡ planned s j.call j.boot
  pub waits : is_ask (next_of (asks_left a.plan a.answers)) ≡ true
  pub asked : length (asks_made a.plan a.answers) ≡ length a.answers
  pub unsent : IsUnsent o j a
  pub none_ended : list_any is_ended_answer a.answers ≡ false
