-- The list of domains: a finite map from slots to what they hold, as a list of as many slots as there can be. (libvirt's
-- virDomainObjList is the like: it finds an object by its name or its UUID.)
use Rattle.std.specs.Prelude.{◌≡◌, ℕ, ◌==◌, Bool, false, not, ◌&&◌, List, [], ◌∷◌, slice_index_or, is_none, bytes_eq, replicate, filter, length, map, Option, None, Some, if◌then◌else◌}
use Rattle.std.specs.List.{position, sum_by}
use Rattle.history_spec.specs.Tally.{one_fewer}
use Rattle.virt_types.specs.Front.{is_longer}
use Rattle.virt_types.specs.Limits.{most_domains}
use Rattle.virt_types.specs.Below.types_base.declared.caller.Front.{Front}
use Rattle.book_spec.specs.declared.list.Entry.{Entry}

abbrev pub Slots : Type 0
Slots = List (Option Entry)

-- every slot is free
unfoldable pub free_slots : Slots
free_slots = replicate most_domains None

-- what a slot holds
abbrev pub entry_in : Slots → ℕ → Option Entry
entry_in slots slot = slice_index_or slots slot None

abbrev pub name_of : Entry → List ℕ
name_of entry = entry.name

abbrev pub uuid_of : Entry → List ℕ
uuid_of entry = entry.uuid

-- a domain with this name, or with this identifier, is in a slot
abbrev pub has : (Entry → List ℕ) → List ℕ → Option Entry → Bool
has key bytes None = false
has key bytes (Some entry) = bytes_eq (key entry) bytes

-- the slot of the domain of this name, or of this identifier
unfoldable pub slot_of : (Entry → List ℕ) → List ℕ → Slots → Option ℕ
slot_of key bytes slots = position (has key bytes) slots

unfoldable pub least_free_slot : Slots → Option ℕ
least_free_slot slots = position is_none slots

-- a domain that nobody holds yet
abbrev pub new_entry : List ℕ → List ℕ → Entry
new_entry name uuid = record { name = name; uuid = uuid; holders = []; front = record { chapter = 0; marks = 0 }; occupied = false }

-- held once more, by this number
abbrev pub held_by : ℕ → Entry → Entry
held_by number entry = record entry { holders = number ∷ entry.holders }

-- of two releases the one with the longer front counts
abbrev pub told : Front → Bool → Entry → Entry
told front occupied entry =
    if is_longer front entry.front then record entry { front = front; occupied = occupied } else entry

-- held once less
abbrev pub let_go_by : ℕ → Entry → Entry
let_go_by number entry = record entry { holders = one_fewer number entry.holders }

-- a slot that nobody holds and that is not occupied is free
abbrev pub kept : Entry → Option Entry
kept entry = if length entry.holders == 0 && not entry.occupied then None else Some entry

-- what a slot holds after a release
abbrev pub released : ℕ → Front → Bool → Option Entry → Option Entry
released number front occupied None = None
released number front occupied (Some entry) = kept (told front occupied (let_go_by number entry))

-- how often a number holds what a slot holds
abbrev pub times_held : ℕ → Option Entry → ℕ
times_held number None = 0
times_held number (Some entry) = length (filter (λ n. n == number) entry.holders)

-- for each slot, how often a number holds it
unfoldable pub holds_of : ℕ → Slots → List ℕ
holds_of number slots = map (times_held number) slots

-- nothing is held
unfoldable pub no_holds : List ℕ
no_holds = replicate most_domains 0

-- how many holders a slot has, and all of them
abbrev pub holders_in : Option Entry → ℕ
holders_in None = 0
holders_in (Some entry) = length entry.holders

unfoldable pub all_holders : Slots → ℕ
all_holders slots = sum_by holders_in slots

-- no two domains have one name, or one identifier
abbrev pub AreApart : (Entry → List ℕ) → Slots → Type 0
AreApart key slots = (i j : ℕ) (one other : Entry) → entry_in slots i ≡ Some one → entry_in slots j ≡ Some other → key one ≡ key other → i ≡ j

-- what holds of the slots at all times
pub record AreSlots (slots : Slots) : Type 0 where
  pub count : length slots ≡ most_domains
  pub names : AreApart name_of slots
  pub uuids : AreApart uuid_of slots
