-- What virsh prints of the daemon's answers. A refusal goes to standard error, all else to standard output.
use Rattle.std.specs.Prelude.{◌≡◌, ℕ, ℤ, pos, negsuc, Bool, true, false, List, [], ◌∷◌, ◌++◌, map, codes, decimal, Option, None, Some}
use Rattle.std.specs.Cmp.Lexicographic.{slice_cmp}
use Rattle.std.specs.List.{filter, flat_map}
use Rattle.std.specs.List.Sorted.{IsPermutation, IsSorted}
use Rattle.std.specs.Ordering.{nat_cmp}
use Rattle.uuid.specs.Text.{hyphenated_text, lower}
use Rattle.virt_types.specs.Mac.{mac_text}
use Rattle.virt_types.specs.Numbers.{job_number, phase_number, state_word}
use Rattle.virt_types.specs.Refusal.{refusal_message}
use Rattle.virt_types.specs.declared.reference.DomainRef.{DomainRef}
use Rattle.virt_types.specs.Below.types_base.declared.refusal.Refusal.{Refusal}
use Rattle.virt_types.specs.Below.types_base.declared.transition.Transition.{Transition}
use Rattle.virt_types.specs.declared.value.DomainInfo.{DomainInfo}
use Rattle.virt_types.specs.declared.value.DomainRow.{DomainRow}
use Rattle.virt_types.specs.declared.value.JobInfo.{JobInfo}
use Rattle.virt_types.specs.declared.value.LeaseRow.{LeaseRow}
use Rattle.virt_types.specs.declared.value.Note.{Note}
use Rattle.virt_types.specs.declared.value.Note.TheVariants as note
use Rattle.virt_types.specs.declared.value.PoolRow.{PoolRow}
use Rattle.command_spec.specs.Columns.{address_text, at_left, at_right, line, lines, ◌then◌}

-- `error: MESSAGE` or `error: MESSAGE: KEPT`
abbrev pub after_colon : List ℕ → List ℕ
after_colon [] = []
after_colon (b ∷ bs) = codes ": " ++ b ∷ bs

abbrev pub error_text : Refusal → List ℕ
error_text r = line (codes "error: " ++ refusal_message r.code ++ after_colon r.kept)

-- ---- list

-- the number of a domain's live boot
abbrev pub id_text : ℤ → List ℕ
id_text (pos n) = decimal n
id_text (negsuc n) = codes "-"

-- a domain is active where a boot is live
abbrev pub has_boot : ℤ → Bool
has_boot (pos n) = true
has_boot (negsuc n) = false

abbrev pub is_active : DomainRow → Bool
is_active row = has_boot row.domain.id

abbrev pub row_text : List ℕ → List ℕ → List ℕ → List ℕ
row_text id name state = line (at_right 5 id then at_left 20 name then state)

abbrev pub head_text : List ℕ
head_text = row_text (codes "Id") (codes "Name") (codes "State")

abbrev pub domain_row : DomainRow → List ℕ
domain_row row = row_text (id_text row.domain.id) row.domain.name (state_word row.state)

-- the rows that are shown: all, or the active ones
abbrev pub shown : Bool → List DomainRow → List DomainRow
shown true rows = rows
shown false rows = filter is_active rows

-- the table, its rows by rising name
pub record IsTable (all : Bool) (rows : List DomainRow) (text : List ℕ) : Type 0 where
  pub ordered : List DomainRow
  pub same : IsPermutation (shown all rows) ordered
  pub rising : IsSorted (slice_cmp nat_cmp) (map (λ row. row.domain.name) ordered)
  pub text_is : text ≡ head_text ++ flat_map domain_row ordered

-- ---- a domain

-- a label, and a value in the 17th column
abbrev pub field : List ℕ → List ℕ → List ℕ
field label value = line (at_left 16 label ++ value)

abbrev pub kibibytes : ℕ → List ℕ
kibibytes n = decimal n then codes "KiB"

abbrev pub enabled : Bool → List ℕ
enabled true = codes "enable"
enabled false = codes "disable"

abbrev pub info_text : DomainRef → DomainInfo → Bool → List ℕ
info_text domain info autostart =
    field (codes "Name:") domain.name
    ++ field (codes "UUID:") (hyphenated_text lower domain.uuid)
    ++ field (codes "State:") (state_word info.state)
    ++ field (codes "CPU(s):") (decimal info.vcpus)
    ++ field (codes "Max memory:") (kibibytes info.memory)
    ++ field (codes "Used memory:") (kibibytes info.current)
    ++ field (codes "Autostart:") (enabled autostart)

-- domjobinfo, and what `--verbose` shows before the line of save and dump: kind, phase and rest as numbers
abbrev pub job_text : JobInfo → List ℕ
job_text job = line (decimal (job_number job.kind) then decimal (phase_number job.phase) then decimal job.rest)

-- dommemstat
abbrev pub memory_text : ℕ → List ℕ
memory_text n = line (codes "actual" then decimal n)

-- ---- lists

-- snapshot-list, vol-list
abbrev pub names_text : List (List ℕ) → List ℕ
names_text names = lines names

-- net-list: the active ones come first
abbrev pub networks_text : List (List ℕ) → List (List ℕ) → List ℕ
networks_text active inactive = lines active ++ lines inactive

abbrev pub activity : Bool → List ℕ
activity true = codes "active"
activity false = codes "inactive"

-- pool-list
abbrev pub pools_text : List PoolRow → List ℕ
pools_text rows = lines (map (λ row. row.name then activity row.active) rows)

-- net-leases
abbrev pub leases_text : List LeaseRow → List ℕ
leases_text rows = lines (map (λ row. mac_text row.mac then address_text row.address) rows)

-- snapshot-parent
abbrev pub parent_text : Option (List ℕ) → List ℕ
parent_text None = []
parent_text (Some name) = line name

-- ---- events

abbrev pub transition_text : Transition → List ℕ
transition_text t = codes "event" then decimal t.event then codes "detail" then decimal t.detail

abbrev pub note_text : Note → List ℕ
note_text (note.Event name uuid t) = transition_text t
note_text (note.Lost name uuid) = codes "events lost"

-- event: each event in a line; after `events lost` no more come
abbrev pub notes_text : List Note → List ℕ
notes_text notes = lines (map note_text notes)

-- events: each with the address and the domain that it is of
abbrev pub heard_text : List ℕ → List ℕ → Note → List ℕ
heard_text address name heard = line (address then name then note_text heard)

-- and where no more come of one
abbrev pub stopped_text : List ℕ → List ℕ → List ℕ
stopped_text address name = line (address then name then codes "stopped")
