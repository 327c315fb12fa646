-- Case: the titles of the definitions that the store keeps.
use Rattle.std.specs.Prelude.{◌≡◌, ℕ, List, Contains, Some}
use Rattle.std.specs.Cmp.Lexicographic.{slice_cmp}
use Rattle.std.specs.List.Sorted.{IsStrictlySortedBy}
use Rattle.std.specs.Ordering.{nat_cmp}
use Rattle.store_asks.specs.Below.def_keeper.Marks.{StoreHistory, acknowledged_in}
use Rattle.store_asks.specs.Below.def_map.Map.{found}
use Rattle.store_spec.specs.Changes.{Definitions, after as map_after}
use Rattle.store_spec.specs.declared.entry.Entry.{Entry}
use Rattle.store_spec.specs.declared.kind.BookKind.TheVariants as kind
use Rattle.virt_types.specs.Refusal.{kept_cut}
use Rattle.virt_types.specs.Below.types_base.declared.caller.Front.{Front}
use Rattle.virt_types.specs.declared.value.Reply.{Reply}
use Rattle.virt_types.specs.declared.value.Reply.TheVariants as reply
use Rattle.virt_types.specs.declared.value.TitleRow.{TitleRow}
use Rattle.virt_types.specs.declared.value.Value.TheVariants as value
use Rattle.outcome_spec.specs.Histories.{IsRead, front_of}
use Rattle.outcome_spec.specs.Rows.{KnownRow, level}

-- the definitions at the end of a store's history
abbrev pub map_of : StoreHistory → Definitions
map_of h = map_after (found h.base.map) (acknowledged_in h.marks)

-- a domain with its title, of which the whole characters within 1,024 bytes are told
abbrev pub title_row : Entry → TitleRow
title_row e = record { name = e.name; title = kept_cut e.title }

-- by rising name, the title of each domain
pub record AreTitles (map : Definitions) (rows : List TitleRow) : Type 0 where
  pub rising : IsStrictlySortedBy (λ one other. slice_cmp nat_cmp one.name other.name) rows
  pub from : (r : TitleRow) → Contains rows r → (uuid : List ℕ) × (e : Entry) × (map kind.Domain uuid ≡ Some e) × (r ≡ title_row e)
  pub all : (uuid : List ℕ) (e : Entry) → map kind.Domain uuid ≡ Some e → Contains rows (title_row e)

-- the reply to TITLES, of a history of the store that comes this far
pub record IsTitles (before now : KnownRow) (front : Front) (said : Reply) : Type 0 where
  pub history : StoreHistory
  pub rows : List TitleRow
  pub between : IsRead level before.store now.store history
  pub front_is : front ≡ front_of history
  pub titles : AreTitles (map_of history) rows
  pub tells : said ≡ reply.Ok (value.Titles rows)
