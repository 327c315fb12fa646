-- The replies of calls that leave no Done.
use Rattle.std.specs.Prelude.{◌≡◌, ◌^◌, decimal, Option}
use Rattle.domain_spec.specs.Excluded.{excluded_reply}
use Rattle.domain_spec.specs.Refusals.{no_memory, refusal}
use Rattle.domain_spec.specs.Types.{Job, RefusalCode, Reply, Who}
use Rattle.domain_spec.specs.Types.code
use Rattle.domain_spec.specs.Types.reply
use Rattle.domain_spec.specs.declared.mark.HeldJobs.{HeldJobs}
use Rattle.domain_spec.specs.declared.mark.HeldOperation.{HeldOperation}

-- the reply of a Refused mark with this code, whoever waited, where this job and this operation were held
abbrev pub IsExcludedReply : RefusalCode → Option (Job × Who) → Option HeldOperation → Reply → Type 0
IsExcludedReply why active op r = (held : HeldJobs) → held.active ≡ active → held.op ≡ op → r ≡ excluded_reply why held

-- no ticket was left: kept is how many there are
abbrev pub spent_reply : Reply
spent_reply = reply.No (refusal code.CountSpent (decimal (2 ^ 62)))

-- there was no memory
abbrev pub no_memory_reply : Reply
no_memory_reply = reply.No no_memory
