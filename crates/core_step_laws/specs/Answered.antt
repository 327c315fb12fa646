-- What the turn of an answer leaves of the share of its own number.
use Rattle.std.specs.Prelude.{◌≡◌, ℕ, Option, None}
use Rattle.domain_spec.specs.Types.{Answer}
use Rattle.domain_spec.specs.declared.open.OpenOperation.{OpenOperation}
use Rattle.domain_spec.specs.Cell.{OpenCall, Share, share_of}
use Rattle.core_steps.specs.OfLedger.{Back}
use Rattle.core_steps.specs.OfLedger.back_variants as back
use Rattle.core_steps.specs.OfLedger.{step_to}
use Rattle.core_steps.specs.OfLedger.{Step}
use Rattle.domain_spec.specs.declared.step.Outcome.{Outcome}
use Rattle.core_steps.specs.Answering.{GoesBack}
use Rattle.core_steps.specs.Phased.{led_to}
use Rattle.core_steps.specs.Turning.{AsksLast, Turning}
use Rattle.core_step_laws.specs.Staying.{AsideStays}

-- the call stays open where it asks on, and else none is
abbrev pub OpenAfter : Back → Option OpenCall → Type 0
OpenAfter (back.Away y) now = AsksLast now y
OpenAfter other now = now ≡ None

-- what the phase led to that was done so, and so did the operation
abbrev pub LedTo : Step → Option OpenOperation → Option OpenOperation → Type 0
LedTo st was now = (next : Outcome) × (st ≡ step_to next) × (now ≡ led_to next was)

-- the operation stays, but for what its phase led to
abbrev pub OperationAfter : Back → Option OpenOperation → Option OpenOperation → Type 0
OperationAfter (back.Phased st) was now = LedTo st was now
OperationAfter other was now = now ≡ was

-- what the turn of an answer leaves of its share
pub record IsAnsweredTo (s t : Share) (result : Back) : Type 0 where
  pub aside : AsideStays s t
  pub call : OpenAfter result t.call
  pub operation : OperationAfter result s.operation t.operation

-- so it is with each answer
abbrev pub AnswersKeep : Type 0
AnswersKeep = (old new : Turning) (n : ℕ) (x : Answer) (result : Back) → GoesBack n x old new result → IsAnsweredTo (share_of old.cell n) (share_of new.cell n) result
