-- Cases: no ticket is left for a pass of the row, or there was no memory.
use Rattle.std.specs.Prelude.{◌≡◌, ℕ, ◌⊎◌, ◌^◌, true, decimal, codes, Some}
use Rattle.domain_requests.specs.Below.session_spec.Refused.{refusal}
use Rattle.virt_types.specs.Below.types_base.declared.refusal.Refusal.{Refusal}
use Rattle.virt_types.specs.Below.types_base.declared.refusal.RefusalCode.TheVariants as code
use Rattle.outcome_spec.specs.Rows.{DomainPass, KnownRow, pass_of}

-- the pass of the domain in this slot is spent
abbrev pub IsSpentAt : KnownRow → ℕ → Type 0
IsSpentAt row slot = (p : DomainPass) × (pass_of row slot ≡ Some p) × (p.spent ≡ true)

-- a pass of the row is spent
abbrev pub HasSpent : KnownRow → Type 0
HasSpent row = (row.list.spent ≡ true) ⊎ ((row.store.spent ≡ true) ⊎ ((slot : ℕ) × IsSpentAt row slot))

-- the refusal of a spent pass keeps the ticket that it would have got
abbrev pub IsSpent : KnownRow → Refusal → Type 0
IsSpent row why = HasSpent row × (why ≡ refusal code.CountSpent (decimal (2 ^ 62)))

-- there was no memory; a mark that was left all the same keeps the reply that it has to have
abbrev pub no_memory : Refusal
no_memory = refusal code.NoMemory (codes "")
