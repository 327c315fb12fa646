-- Replies where the request came to no answer of a cell.
use Rattle.std.proofs.Common.{◌≡◌, ◌⊎◌, ◌^◌, [], true, false, decimal, inl, inr, refl}
use Rattle.domain_tasks.specs.Below.domain_core.Meaning.{meaning}
use Rattle.domain_tasks.specs.OfObjects.{TellsSpent}
use Rattle.domain_tasks.specs.Tasked.{IsStoppedAt}
use Rattle.domain_tasks.proofs.Stopping.{spent_printed, stops_none}
use Rattle.domain_tasks.specs.OfOutcomes.{DomainPass as KnownPass, HasSpent, IsStopped, KnownRow, no_memory}
use Rattle.domain_tasks.specs.Below.refusals.Replies.{no_memory_reply, spent_reply}
use Rattle.domain_tasks.specs.Below.session_spec.Refused.{refusal}
use Rattle.virt_types.specs.Below.types_base.declared.refusal.Refusal.{Refusal}
use Rattle.virt_types.specs.Below.types_base.declared.refusal.RefusalCode.TheVariants as code
use Rattle.virt_types.specs.declared.value.Reply.{Reply}
use Rattle.virt_types.specs.declared.value.Reply.TheVariants as reply

-- some pass that is spent
abbrev some_pass : KnownPass
some_pass = record { number = 0; seen = record { chapter = 0; base = meaning.any_base; marks = [] }; mine = []; spent = true }

by_cause : (p : KnownPass) (row : KnownRow) (r : Reply) (why : Refusal) → r ≡ reply.No why → (p.spent ≡ true → HasSpent row)
    → ((p.spent ≡ true) × (why ≡ refusal code.CountSpent (decimal (2 ^ 62)))) ⊎ (why ≡ no_memory) → IsStopped row r
by_cause p row r why is spent (inl (e, tells)) = (why, is, inl (spent e, tells))
by_cause p row r why is spent (inr none) = (why, is, inr none)

-- a pass of the row is
pub stopped : (p : KnownPass) (row : KnownRow) (r : Reply) → (p.spent ≡ true → HasSpent row) → IsStoppedAt p r → IsStopped row r
stopped p row r spent (why, is, cause) = by_cause p row r why is spent cause

stops_spent : (r : Reply) → TellsSpent r → IsStoppedAt some_pass r
stops_spent r (inl e) = spent_printed some_pass spent_reply r refl (inl refl) (inl e)
stops_spent r (inr e) = stops_none some_pass r e

pub ran_out : (row : KnownRow) (r : Reply) → HasSpent row → TellsSpent r → IsStopped row r
ran_out row r spent tells = stopped some_pass row r (λ e. spent) (stops_spent r tells)

-- there was no memory, whatever the row
without_memory : (row : KnownRow) (r : Reply) → IsStoppedAt (record some_pass { spent = false }) r → IsStopped row r
without_memory row r (why, is, inl (e, tells)) = absurd (no e)
  where
    no : false ≡ true → ⊥
    no f = cc
without_memory row r (why, is, inr none) = (why, is, inr none)

pub no_room : (row : KnownRow) (r : Reply) → r ≡ no_memory_reply → IsStopped row r
no_room row r e = without_memory row r (stops_none (record some_pass { spent = false }) r e)
