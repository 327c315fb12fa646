-- What a caller is told whose job was excluded: a Refused mark's reply.
use Rattle.std.specs.Prelude.{ℕ, List, [], ◌∷◌, ◌++◌, codes, Option, None, Some}
use Rattle.virt_types.specs.Numbers.{job_word, op_word}
use Rattle.domain_spec.specs.Types.{Job, Refusal, RefusalCode, Reply, Who}
use Rattle.domain_spec.specs.Types.code
use Rattle.domain_spec.specs.Types.reply
use Rattle.domain_spec.specs.declared.mark.HeldJobs.{HeldJobs}
use Rattle.domain_spec.specs.declared.mark.HeldOperation.{HeldOperation}
use Rattle.domain_spec.specs.Refusals.{refusal}

-- the words for the job and the operation that are held, with a blank between two
abbrev pub held_words : Option (Job × Who) → Option HeldOperation → List ℕ
held_words None None = []
held_words (Some j) None = job_word j.0
held_words None (Some o) = op_word o.kind
held_words (Some j) (Some o) = job_word j.0 ++ 32 ∷ op_word o.kind

-- a call that looked often enough is told what is held, one that may not wait how many others wait
abbrev pub excluded_refusal : RefusalCode → HeldJobs → Refusal
excluded_refusal code.TooManyWaiting held = refusal code.TooManyWaiting (codes "32")
excluded_refusal why held = refusal why (held_words held.active held.op)

-- the reply of a Refused mark
abbrev pub excluded_reply : RefusalCode → HeldJobs → Reply
excluded_reply why held = reply.No (excluded_refusal why held)
