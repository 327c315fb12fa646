-- Laws of outcomes, each of which a wrong body would break.
use Rattle.std.specs.Prelude.{◌≡◌, ℕ, ◌<◌, false, length}
use Rattle.domain_spec.specs.Fold.{at_base}
use Rattle.domain_spec.specs.Legal.{IsLegal}
use Rattle.domain_spec.specs.Read.{read}
use Rattle.domain_spec.specs.declared.mark.Mark.{Mark}
use Rattle.virt_types.specs.Front.{is_longer}
use Rattle.virt_types.specs.declared.call.Call.{Call}
use Rattle.virt_types.specs.declared.call.Query.{Query}
use Rattle.virt_types.specs.Below.types_base.declared.caller.Front.{Front}
use Rattle.virt_types.specs.declared.request.Request.{Request}
use Rattle.virt_types.specs.declared.value.Reply.{Reply}
use Rattle.outcome_spec.specs.declared.outcome.Outcome.{Outcome}
use Rattle.outcome_spec.specs.Done.{IsDone}
use Rattle.outcome_spec.specs.Histories.{front_of}
use Rattle.outcome_spec.specs.Marks.{HasLeft}
use Rattle.reply_texts.specs.Printed.{told}
use Rattle.outcome_spec.specs.Read.{IsValue, state_of}
use Rattle.outcome_spec.specs.Outcomes.{HasOutcome}
use Rattle.outcome_spec.specs.Rows.{DomainPass, HasGone, KnownRow}
use Rattle.outcome_spec.specs.Sequential.{IsSequential, standing_before}

-- a call whose pass left no mark has no reply
abbrev pub RepliesNeedMarks : Type 0
RepliesNeedMarks = (before after : DomainPass) (c : Call) (front : Front) (said : Reply) → IsDone before after c front said
    → length before.mine < length after.mine

-- of two requests one after the other no two rest on one mark
abbrev pub MarksAreOfOneRequest : Type 0
MarksAreOfOneRequest = (first then last : DomainPass) (m n : Mark ℕ) (one : HasLeft first then m) (other : HasLeft then last n) → one.at < other.at

-- what is read is not from before the request: the row had not seen more
abbrev pub ReadsAreNotFromBefore : Type 0
ReadsAreNotFromBefore = (before after : DomainPass) (q : Query) (front : Front) (said : Reply) → IsValue before after q front said
    → is_longer (front_of before.seen) front ≡ false

-- what an answer rests on stays true of the row after further requests, and of what rows are joined to
abbrev pub AnswersStayTrue : Type 0
AnswersStayTrue = (before after later : KnownRow) (asked : Request) (o : Outcome) → HasOutcome before after asked o → HasGone after later → HasOutcome before later asked o

-- where a read came as far as the row has seen, it is the value in the state that the row has seen
abbrev pub ReadsAreOfNow : Type 0
ReadsAreOfNow = (before after : DomainPass) (q : Query) (front : Front) (said : Reply) → IsValue before after q front said → front ≡ front_of after.seen
    → said ≡ told (read (state_of after.seen) q)

-- a call's reply that rests on a mark of a legal history is the sequential driver's in the state there, with its commands
abbrev pub RepliesAreSequential : Type 0
RepliesAreSequential = (before after : DomainPass) (c : Call) (front : Front) (said : Reply) (done : IsDone before after c front said)
    → IsLegal (at_base after.seen.base) after.seen.marks → front.chapter ≡ after.seen.chapter
    → IsSequential (standing_before after.seen front.marks) done.mark done.said
