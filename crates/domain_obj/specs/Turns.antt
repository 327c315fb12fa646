-- The turn of an answer: what it leaves of the pass, and what the pass has open then.
use Rattle.std.specs.Prelude.{◌≡◌, ◌++◌, ℕ, List, is_some, Option, Some}
use Rattle.history_spec.specs.Chapter.{tagged}
use Rattle.history_spec.specs.Pass.{AreOf, own}
use Rattle.virt_types.specs.Below.types_base.declared.caller.Front.{Front}
use Rattle.domain_spec.specs.Types.{Answer, Ask}
use Rattle.domain_spec.specs.Types.job
use Rattle.domain_spec.specs.declared.mark.Mark.{Mark}
use Rattle.domain_spec.specs.declared.step.Outcome.{Outcome}
use Rattle.domain_spec.specs.Cell.{OpenCall}
use Rattle.domain_core.specs.Celled.{Celled, cell_in, cell_share}
use Rattle.domain_core.specs.Meaning.{history_of}
use Rattle.domain_core.specs.OfTurns.{Back as CoreBack}
use Rattle.domain_core.specs.OfTurns.back_variants as core_back
use Rattle.domain_obj.specs.Asking.{AwaitsAnswer}
use Rattle.domain_obj.specs.InTurn.{DomainPass}
use Rattle.domain_core.specs.Leading.{IsTold}
use Rattle.domain_obj.specs.Placing.{IsLastPlace}
use Rattle.domain_obj.specs.Running.{Goes}
use Rattle.domain_core.specs.OfTurns.{HasLedTo}
use Rattle.domain_core.specs.Tickets.{HasMonitor, back_of, back_ticket}
use Rattle.domain_core.specs.declared.ticket.Back.{Back}
use Rattle.domain_core.specs.declared.ticket.Back.TheVariants as back
use Rattle.domain_core.specs.OfShares.{IsAnsweredTo}
use Rattle.domain_core.specs.OfShares.{BackLeaves}
use Rattle.domain_core.specs.OfShares.{whose}

-- where the call is away still, it waits for its answer
abbrev pub BackWaits : CoreBack → Option OpenCall → Type 0
BackWaits (core_back.Away x) call = AwaitsAnswer call
BackWaits other call = Unit {0}

module _ {G M E Z : Type 0} where
  -- a call that is done was no phase; and of a phase that is done is told what the Phase among these marks led to
  abbrev pub IsClosedSo : ℕ → OpenCall → List (Mark ℕ) → Back G M E Z → Type 0
  IsClosedSo n call left (back.Done r) = call.job.job ≡ job.Nested → ⊥
  IsClosedSo n call left (back.Away t x) = Unit {0}
  IsClosedSo n call left (back.Phased said) = (next : Outcome) × HasLedTo n next left × IsTold next said

  -- a pass took one turn, in which its open call, which had asked this last, was answered so
  pub record HasAnswered (asked : Ask) (x : Answer) (before after : DomainPass) (result : Back G M E Z) (place : Front) : Type 0 where
    pub old : Celled
    pub new : Celled
    pub left : List (Mark ℕ)
    pub call : OpenCall
    pub was_open : before.share.kept.call ≡ Some call
    pub goes : Goes 1 (tagged new.core.turning.chapter (own whose before.number left)) before after
    pub leaves : BackLeaves before.number call asked x before.share.kept after.share.kept (back_of result) left
    pub closed : IsClosedSo before.number call left result
    pub share_was : cell_share old before.number ≡ before.share
    pub share_is : after.share ≡ cell_share new before.number
    pub same_chapter : new.core.turning.chapter ≡ old.core.turning.chapter
    pub ticket : HasMonitor (is_some new.out) (back_ticket result)
    pub waits : BackWaits (back_of result) after.share.kept.call
    pub keeps : IsAnsweredTo before.share.kept after.share.kept (back_of result)
    pub saw : after.seen ≡ history_of new
    pub marks_are : (cell_in new).marks ≡ (cell_in old).marks ++ left
    pub of_pass : AreOf whose before.number left
    pub place_is : IsLastPlace place new
