-- A phase of an operation, as its pass leaves it.
use Rattle.std.specs.Prelude.{◌≡◌, ℕ, List, [], ◌∷◌, is_some, Bool, Option, None, Some}
use Rattle.history_spec.specs.Chapter.{tagged}
use Rattle.virt_types.specs.Below.types_base.declared.caller.Front.{Front}
use Rattle.domain_spec.specs.Types.{Answer, Ask, Call, Phase, Reply, Transition, Who}
use Rattle.domain_spec.specs.Types.job
use Rattle.domain_spec.specs.declared.mark.Mark.{Mark}
use Rattle.domain_spec.specs.declared.mark.Mark.TheVariants as mark
use Rattle.domain_spec.specs.declared.open.OpenJob.{OpenJob}
use Rattle.domain_spec.specs.declared.open.OpenOperation.{OpenOperation}
use Rattle.domain_spec.specs.declared.step.Outcome.{Outcome}
use Rattle.domain_spec.specs.declared.step.Outcome.TheVariants as outcome
use Rattle.domain_spec.specs.Cell.{OpenCall}
use Rattle.domain_obj.specs.Finishing.{IsAway, IsClosed}
use Rattle.domain_obj.specs.InTurn.{DomainPass}
use Rattle.domain_core.specs.Leading.{IsTold}
use Rattle.domain_core.specs.declared.next.Next.{Next}
use Rattle.domain_obj.specs.Placing.{IsPlaced}
use Rattle.domain_obj.specs.Running.{Goes, standing_after}
use Rattle.domain_core.specs.Celled.{CellShare}
use Rattle.domain_core.specs.OfTurns.{IsToldAtEnd}
use Rattle.domain_core.specs.declared.ticket.PhaseLook.{PhaseLook}
use Rattle.domain_core.specs.declared.ticket.PhaseLook.TheVariants as phasing
use Rattle.domain_core.specs.OfTurns.{led_to}
use Rattle.domain_core.specs.OfTurns.{CanEnd}
use Rattle.domain_core.specs.OfTurns.{IsDue, IsHeld}
use Rattle.domain_core.specs.OfShares.{AsideStays}
use Rattle.domain_core.specs.OfShares.{told}

-- a phase that was done: its chapter, the boot of its Admit, and what its Phase says
pub record PhaseDone : Type 0 where
  pub chapter : ℕ
  pub boot : Option ℕ
  pub phase : Phase
  pub asks : List Ask
  pub answers : List Answer
  pub next : Outcome
  pub events : List Transition

-- its mark
abbrev pub phase_mark : ℕ → Who → PhaseDone → Mark ℕ
phase_mark n who p = mark.Phase n who p.phase p.asks p.answers p.next p.events

-- its two marks, of its chapter: it was admitted for the call of its operation
abbrev pub marks_of : ℕ → Who → Call → PhaseDone → List (ℕ × Mark ℕ)
marks_of n who d p = tagged p.chapter (mark.Admit n who job.Nested d p.boot ∷ phase_mark n who p ∷ [])

-- the same share, of which the operation went on to this
abbrev pub led : Outcome → OpenOperation → CellShare → CellShare
led next o s = record s { kept = record s.kept { operation = led_to next (Some o) } }

-- the pass has this operation, of which a phase is due, and no call open
pub record IsDueFor (who : Who) (o : OpenOperation) (pass : DomainPass) : Type 0 where
  pub closed : IsClosed pass
  pub waits : pass.share.kept.waits ≡ None
  pub operation : pass.share.kept.operation ≡ Some o
  pub due : IsDue (Some o) pass.number who

-- the pass has this operation, which is over, and no call open
pub record IsOverFor (who : Who) (o : OpenOperation) (pass : DomainPass) : Type 0 where
  pub closed : IsClosed pass
  pub operation : pass.share.kept.operation ≡ Some o
  pub over : CanEnd (Some o) pass.number who

-- the phase as it was admitted
abbrev pub phase_let_in : ℕ → Who → OpenOperation → Option ℕ → OpenJob
phase_let_in n who o boot = record { number = n; who = who; job = job.Nested; call = o.call; boot = boot; before = None }

-- it was admitted, and asks this; nobody was asked before
pub record IsPhaseAway (who : Who) (o : OpenOperation) (before after : DomainPass) (x : Ask) (sent : Bool) : Type 0 where
  pub chapter : ℕ
  pub boot : Option ℕ
  pub call : OpenCall
  pub goes : Goes 1 (tagged chapter (mark.Admit before.number who job.Nested o.call boot ∷ [])) before after
  pub is_open : after.share.kept.call ≡ Some call
  pub job : call.job ≡ phase_let_in before.number who o boot
  pub none_told : told call.asks call.answers ≡ []
  pub away : IsAway after x sent
  pub in_chapter : after.share.chapter ≡ Some chapter
  pub operation : after.share.kept.operation ≡ Some o
  pub aside : AsideStays before.share.kept after.share.kept

-- the phase that was due is done by its two marks, after so many turns, and leads on so
pub record IsPhaseDone (who : Who) (o : OpenOperation) (turns : ℕ) (p : PhaseDone) (before after : DomainPass) (said : Next) (place : Front) : Type 0 where
  pub due : o.outcome ≡ outcome.On p.phase
  pub goes : Goes turns (marks_of before.number who o.call p) before after
  pub leads : IsTold p.next said
  pub share : after.share ≡ led p.next o before.share
  pub placed : IsPlaced place p.chapter (phase_mark before.number who p) after

-- nothing changed for the pass in one turn
pub record IsUnchanged (before after : DomainPass) : Type 0 where
  pub goes : Goes 1 [] before after
  pub share : after.share ≡ before.share

-- a normal job is open, by what the pass has seen, so the phase was excluded
pub record IsExcludedNow (before after : DomainPass) : Type 0 where
  pub unchanged : IsUnchanged before after
  pub held : IsHeld (standing_after after.seen).job

-- what the turn of a due phase leaves of the pass
module _ {G M E Z : Type 0} where
  abbrev pub HasStepped : Who → OpenOperation → DomainPass → DomainPass → Front → PhaseLook G M E Z → Type 0
  HasStepped who o before after place (phasing.Away t x) = IsPhaseAway who o before after x (is_some t.monitor)
  HasStepped who o before after place (phasing.Phased said) = (p : PhaseDone) × IsPhaseDone who o 1 p before after said place × (told p.asks p.answers ≡ [])
  HasStepped who o before after place phasing.Excluded = IsExcludedNow before after
  HasStepped who o before after place phasing.NoMemory = IsUnchanged before after

-- the operation of the pass, which was over, ended in one turn with the reply of its last phase
pub record HasEnded (who : Who) (o : OpenOperation) (before after : DomainPass) (said : Reply) (place : Front) : Type 0 where
  pub chapter : ℕ
  pub last : Reply
  pub over : o.outcome ≡ outcome.Over last
  pub goes : Goes 1 (tagged chapter (mark.End before.number who last ∷ [])) before after
  pub told_so : IsToldAtEnd last said
  pub share : after.share ≡ record before.share { kept = record before.share.kept { operation = None } }
  pub placed : IsPlaced place chapter (mark.End before.number who last) after
