-- Cases: all domains, and those that are not active. The list gives the names and slots, and each row is read of its
-- cell.
use Rattle.std.specs.Prelude.{◌≡◌, ◌&&◌, ℕ, List, [], ◌∷◌, bytes_eq, is_none, take, Contains, Option, None, Some, if◌then◌else◌}
use Rattle.std.specs.Cmp.Lexicographic.{slice_cmp}
use Rattle.std.specs.List.Sorted.{IsStrictlySortedBy}
use Rattle.std.specs.Ordering.{nat_cmp}
use Rattle.history_spec.specs.declared.history.History.{History}
use Rattle.book_spec.specs.declared.list.Entry.{Entry}
use Rattle.book_spec.specs.ListHistory.{ListHistory, slots_of}
use Rattle.book_spec.specs.Slots.{Slots, entry_in}
use Rattle.domain_spec.specs.Chapter.{rising_number}
use Rattle.domain_spec.specs.Reading.{reference_of, state_in}
use Rattle.domain_spec.specs.declared.mark.Mark.{Mark}
use Rattle.domain_spec.specs.declared.standing.Base.{Base}
use Rattle.virt_types.specs.Below.types_base.declared.caller.Front.{Front}
use Rattle.virt_types.specs.declared.domain.Domain.{Domain}
use Rattle.virt_types.specs.declared.domain.State.{State}
use Rattle.virt_types.specs.declared.domain.State.TheVariants as state
use Rattle.virt_types.specs.declared.value.DomainRow.{DomainRow}
use Rattle.virt_types.specs.declared.value.Reply.{Reply}
use Rattle.virt_types.specs.declared.value.Reply.TheVariants as reply
use Rattle.virt_types.specs.declared.value.Value.TheVariants as value
use Rattle.outcome_spec.specs.Histories.{IsRead, front_of}
use Rattle.outcome_spec.specs.Read.{state_of}
use Rattle.outcome_spec.specs.Rows.{DomainPass, KnownRow, level, pass_of}

-- a domain of the list, and its slot
pub record Listed : Type 0 where
  pub entry : Entry
  pub slot : ℕ

-- by rising name, each domain of the slots once
pub record AreListed (slots : Slots) (rows : List Listed) : Type 0 where
  pub rising : IsStrictlySortedBy (λ one other. slice_cmp nat_cmp one.entry.name other.entry.name) rows
  pub stand : (r : Listed) → Contains rows r → entry_in slots r.slot ≡ Some r.entry
  pub all : (slot : ℕ) (e : Entry) → entry_in slots slot ≡ Some e → Contains rows (record { entry = e; slot = slot })

-- the domain of an entry, where its cell has it
abbrev pub domain_at : Entry → State → Option Domain
domain_at e (state.Vacant boots) = None
domain_at e (state.Held d) = if bytes_eq d.name e.name && bytes_eq d.uuid e.uuid then Some d else None

-- this was read of the cell of a row
pub record IsRow (before after : KnownRow) (r : Listed) (found : Option Domain) : Type 0 where
  pub old : DomainPass
  pub new : DomainPass
  pub history : History Base (Mark ℕ)
  pub pass_before : pass_of before r.slot ≡ Some old
  pub pass_after : pass_of after r.slot ≡ Some new
  pub between : IsRead rising_number old new history
  pub is : found ≡ domain_at r.entry (state_of history)

-- and so of each row
abbrev pub AreRows : KnownRow → KnownRow → List Listed → List (Option Domain) → Type 0
AreRows before after [] [] = Unit {0}
AreRows before after (r ∷ rs) (d ∷ ds) = IsRow before after r d × AreRows before after rs ds
AreRows before after rs ds = ⊥

-- the domains of the list, as their cells were read; the list came this far
pub record IsList (before after : KnownRow) (front : Front) (found : List (Option Domain)) : Type 0 where
  pub history : ListHistory
  pub rows : List Listed
  pub between : IsRead level before.list after.list history
  pub front_is : front ≡ front_of history
  pub listed : AreListed (slots_of history) rows
  pub read : AreRows before after rows found

-- how a domain is listed
abbrev pub row_of : Domain → DomainRow
row_of d = record { domain = reference_of d; state = state_in d.live }

-- the rows of the domains that there are
abbrev pub rows_of : List (Option Domain) → List DomainRow
rows_of [] = []
rows_of (None ∷ ds) = rows_of ds
rows_of (Some d ∷ ds) = row_of d ∷ rows_of ds

-- the names of those that are not active
abbrev pub idle_names : List (Option Domain) → List (List ℕ)
idle_names [] = []
idle_names (None ∷ ds) = idle_names ds
idle_names (Some d ∷ ds) = if is_none d.live then d.name ∷ idle_names ds else idle_names ds

-- the reply to LIST_ALL
abbrev pub IsAll : KnownRow → KnownRow → Front → Reply → Type 0
IsAll before after front said = (found : List (Option Domain)) × IsList before after front found × (said ≡ reply.Ok (value.Domains (rows_of found)))

-- the reply to CONNECT_LIST_DEFINED_DOMAINS: at most so many names
abbrev pub IsIdle : KnownRow → KnownRow → ℕ → Front → Reply → Type 0
IsIdle before after most front said = (found : List (Option Domain)) × IsList before after front found × (said ≡ reply.Ok (value.Names (take most (idle_names found))))
