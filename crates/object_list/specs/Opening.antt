-- The slots with which the list is opened: the domains that were found, from slot 0 on. Each is occupied.
use Rattle.std.specs.Prelude.{◌≡◌, ℕ, ◌-◌, ◌<◌, ◌≤◌, ◌++◌, true, List, map, length, replicate, slice_index_or, None, Some}
use Rattle.types_base.specs.Limits.{most_domains}
use Rattle.book_spec.specs.declared.list.Entry.{Entry}
use Rattle.book_spec.specs.Slots.{Slots, new_entry}
use Rattle.object_list.specs.declared.slot_name.FoundDomain.{FoundDomain}

abbrev pub opened_entry : FoundDomain → Entry
opened_entry domain = record (new_entry domain.name domain.uuid) { occupied = true }

unfoldable pub opened : List FoundDomain → Slots
opened found = map (λ domain. Some (opened_entry domain)) found ++ replicate (most_domains - length found) None

-- no two of the domains have one name, or one identifier
abbrev pub AreDistinct : (FoundDomain → List ℕ) → List FoundDomain → Type 0
AreDistinct key found = (i j : ℕ) (d : FoundDomain) → i < length found → j < length found → key (slice_index_or found i d) ≡ key (slice_index_or found j d) → i ≡ j

pub record CanOpen (found : List FoundDomain) : Type 0 where
  pub few : length found ≤ most_domains
  pub names : AreDistinct (λ domain. domain.name) found
  pub uuids : AreDistinct (λ domain. domain.uuid) found
