use Rattle.outcome_spec.proofs.LawProofs.{replies_need_marks}
use Rattle.outcome_spec.proofs.laws.a_reply_needs_a_mark.Goals as goal

pub returns : goal.returns
returns c = replies_need_marks
