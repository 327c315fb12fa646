-- Case: the reply is that of the mark with which the call was done, ended, came to rest or was refused.
use Rattle.std.specs.Prelude.{◌≡◌, ℕ, Option, None, Some}
use Rattle.domain_spec.specs.Excluded.{excluded_reply}
use Rattle.domain_spec.specs.declared.mark.Mark.{Mark}
use Rattle.domain_spec.specs.declared.mark.Mark.TheVariants as mark
use Rattle.domain_spec.specs.declared.step.Outcome.{Outcome as Next}
use Rattle.domain_spec.specs.declared.step.Outcome.TheVariants as next
use Rattle.virt_types.specs.declared.call.Call.{Call}
use Rattle.virt_types.specs.Below.types_base.declared.caller.Front.{Front}
use Rattle.virt_types.specs.declared.value.Reply.{Reply}
use Rattle.outcome_spec.specs.Marks.{HasLeft, StandsAt}
use Rattle.reply_texts.specs.Printed.{told}
use Rattle.outcome_spec.specs.Rows.{DomainPass}

-- a phase answers where its operation rests
abbrev pub rest_of : Next → Option Reply
rest_of (next.Rest r) = Some r
rest_of other = None

-- what a mark tells the caller of the call that it ends
abbrev pub reply_of : Mark ℕ → Option Reply
reply_of (mark.Done number who c boot asks answers r events) = Some r
reply_of (mark.End number who r) = Some r
reply_of (mark.Phase number who p asks answers o events) = rest_of o
reply_of (mark.Refused number who c why held) = Some (excluded_reply why held)
reply_of other = None

-- the call that a mark is of: its own, or for a mark of an operation none
abbrev pub call_in : Mark ℕ → Option Call
call_in (mark.Done number who c boot asks answers r events) = Some c
call_in (mark.Refused number who c why held) = Some c
call_in (mark.Start number who c boot) = Some c
call_in (mark.TakeUp number who c) = Some c
call_in other = None

-- the call of an operation's mark is that with which this request began the operation, or took it up
abbrev pub IsCallOf : DomainPass → DomainPass → Call → Mark ℕ → Option Call → Type 0
IsCallOf before after c m (Some own) = own ≡ c
IsCallOf before after c m None = (began : Mark ℕ) × HasLeft before after began × (call_in began ≡ Some c)

-- the reply of this call is that of the mark at this place
pub record IsDone (before after : DomainPass) (c : Call) (front : Front) (reply : Reply) : Type 0 where
  pub mark : Mark ℕ
  pub said : Reply
  pub stands : StandsAt before after front mark
  pub says : reply_of mark ≡ Some said
  pub tells : reply ≡ told said
  pub of : IsCallOf before after c mark (call_in mark)
