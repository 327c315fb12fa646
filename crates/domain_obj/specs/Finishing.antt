-- A call, or a phase of an operation, that asks until it is done.
use Rattle.std.specs.Prelude.{◌≡◌, ℕ, List, [], ◌∷◌, ◌++◌, is_some, Bool, None, Some}
use Rattle.virt_types.specs.Below.types_base.declared.caller.Front.{Front}
use Rattle.history_spec.specs.Chapter.{tagged}
use Rattle.domain_spec.specs.Types.{Answer, Ask, Phase, Reply, Transition}
use Rattle.domain_spec.specs.Types.job
use Rattle.domain_spec.specs.declared.mark.Mark.{Mark}
use Rattle.domain_spec.specs.declared.mark.Mark.TheVariants as mark
use Rattle.domain_spec.specs.declared.open.OpenOperation.{OpenOperation}
use Rattle.domain_spec.specs.declared.step.Outcome.{Outcome}
use Rattle.domain_spec.specs.declared.step.Outcome.TheVariants as outcome
use Rattle.domain_spec.specs.Cell.{OpenCall}
use Rattle.domain_core.specs.OfTurns.{led_to}
use Rattle.domain_obj.specs.Asking.{AwaitsAnswer, IsAsked}
use Rattle.domain_obj.specs.InTurn.{DomainPass}
use Rattle.domain_core.specs.Leading.{IsTold}
use Rattle.domain_obj.specs.Placing.{IsPlaced}
use Rattle.domain_obj.specs.Running.{Goes, IsSpent}
use Rattle.domain_obj.specs.declared.finishing.Finished.{Finished}
use Rattle.domain_obj.specs.declared.finishing.Finished.TheVariants as finished
use Rattle.domain_core.specs.declared.next.Next.{Next}
use Rattle.domain_core.specs.OfShares.{AsideStays}
use Rattle.domain_core.specs.OfShares.{told}

-- a call or a phase of the pass is away: it asked this last, with a monitor or not
pub record IsAway (pass : DomainPass) (asked : Ask) (sent : Bool) : Type 0 where
  pub last : IsAsked pass asked
  pub awaits : AwaitsAnswer pass.share.kept.call
  pub monitor : sent ≡ is_some pass.share.monitor

-- no call is open, so no monitor is out for the pass
pub record IsClosed (pass : DomainPass) : Type 0 where
  pub call : pass.share.kept.call ≡ None
  pub monitor : pass.share.monitor ≡ None
  pub chapter : pass.share.chapter ≡ None

-- a call that was open at first is away still: it was told this beside what it was told at first
pub record IsStillAway (first now : DomainPass) (more : List (Ask × Answer)) : Type 0 where
  pub turns : ℕ
  pub goes : Goes turns [] first now
  pub chapter : now.share.chapter ≡ first.share.chapter
  pub was : OpenCall
  pub call : OpenCall
  pub was_open : first.share.kept.call ≡ Some was
  pub is_open : now.share.kept.call ≡ Some call
  pub job : call.job ≡ was.job
  pub heard : told call.asks call.answers ≡ told was.asks was.answers ++ more
  pub operation : now.share.kept.operation ≡ first.share.kept.operation
  pub aside : AsideStays first.share.kept now.share.kept

-- it is done by this mark, in the chapter in which it was admitted, and was told so much more
pub record IsFinishedBy (before after : DomainPass) (more : List (Ask × Answer)) (place : Front) (call : OpenCall) (asks : List Ask) (answers : List Answer) (m : Mark ℕ) : Type 0 where
  pub turns : ℕ
  pub chapter : ℕ
  pub was_open : before.share.kept.call ≡ Some call
  pub in_chapter : before.share.chapter ≡ Some chapter
  pub goes : Goes turns (tagged chapter (m ∷ [])) before after
  pub heard : told asks answers ≡ told call.asks call.answers ++ more
  pub closed : IsClosed after
  pub aside : AsideStays before.share.kept after.share.kept
  pub placed : IsPlaced place chapter m after

-- a call is done, which is no phase: its Done says all that it was told
pub record IsFinished (before after : DomainPass) (more : List (Ask × Answer)) (r : Reply) (place : Front) : Type 0 where
  pub call : OpenCall
  pub normal : call.job.job ≡ job.Nested → ⊥
  pub asks : List Ask
  pub answers : List Answer
  pub events : List Transition
  pub by : IsFinishedBy before after more place call asks answers (mark.Done before.number call.job.who call.job.call call.job.boot asks answers r events)
  pub operation : after.share.kept.operation ≡ before.share.kept.operation

-- the phase that was due is done, and leads on as its caller is told; so does the operation
pub record IsPhased (before after : DomainPass) (more : List (Ask × Answer)) (said : Next) (place : Front) : Type 0 where
  pub call : OpenCall
  pub operation : OpenOperation
  pub is_open : before.share.kept.operation ≡ Some operation
  pub its_caller : call.job.who ≡ operation.who
  pub phase : Phase
  pub due : operation.outcome ≡ outcome.On phase
  pub asks : List Ask
  pub answers : List Answer
  pub next : Outcome
  pub events : List Transition
  pub by : IsFinishedBy before after more place call asks answers (mark.Phase before.number call.job.who phase asks answers next events)
  pub leads : IsTold next said
  pub operation_is : after.share.kept.operation ≡ led_to next (Some operation)

-- how the asks of a call or a phase end: the desk was asked just what the mark says, but for what found no memory; where no
-- ticket was left, it was asked once more than the call was answered
abbrev pub HasFinished : DomainPass → DomainPass → List (Ask × Answer) → List (Ask × Answer) → Finished → Type 0
HasFinished before after report now (finished.Done r place) = (more : List (Ask × Answer)) × (now ≡ report ++ more) × IsFinished before after more r place
HasFinished before after report now (finished.Phased said place) = (more : List (Ask × Answer)) × (now ≡ report ++ more) × IsPhased before after more said place
HasFinished before after report now finished.Spent =
    (more : List (Ask × Answer)) × (asked : Ask) × (x : Answer) × (mid : DomainPass) × IsStillAway before mid more × IsAsked mid asked × (now ≡ report ++ (more ++ told (asked ∷ []) (x ∷ []))) × IsSpent mid after
