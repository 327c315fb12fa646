-- The titles of entries in order.
use Rattle.std.proofs.Common.{◌≡◌, ⊎_elim, List, [], ◌∷◌, map, Contains, Less, sym}
use Rattle.std.specs.Cmp.Lexicographic.{slice_cmp}
use Rattle.std.specs.List.{AllByRecursion}
use Rattle.std.specs.List.Sorted.{IsStrictlySortedBy}
use Rattle.std.specs.Ordering.{nat_cmp}
use Rattle.def_map.specs.Listed.{AreEntries}
use Rattle.store_spec.specs.Changes.{Definitions}
use Rattle.store_spec.specs.declared.entry.Entry.{Entry}
use Rattle.store_spec.specs.declared.kind.BookKind.TheVariants as kind
use Rattle.virt_types.specs.declared.value.TitleRow.{TitleRow}
use Rattle.driver_cells.specs.OfOutcomes.{AreTitles, title_row}
use Rattle.driver_lists.proofs.Members.{contains_cases, contains_here, contains_later, contains_map, contains_none}

all_below : (e : Entry) (es : List Entry) → AllByRecursion (λ other. slice_cmp nat_cmp e.name other.name ≡ Less) es → AllByRecursion (λ (other : TitleRow). slice_cmp nat_cmp (title_row e).name other.name ≡ Less) (map title_row es)
all_below e [] below = tt
all_below e (f ∷ es) below = (below.0, all_below e es below.1)

all_rise : (es : List Entry) → IsStrictlySortedBy (λ one other. slice_cmp nat_cmp one.name other.name) es → IsStrictlySortedBy (λ (one other : TitleRow). slice_cmp nat_cmp one.name other.name) (map title_row es)
unfolding IsStrictlySortedBy
all_rise [] rising = tt
all_rise (e ∷ es) rising = (all_below e es rising.0, all_rise es rising.1)

row_from : (es : List Entry) (r : TitleRow) → Contains (map title_row es) r → (e : Entry) × Contains es e × (r ≡ title_row e)
row_from [] r there = absurd (contains_none r there)
row_from (e ∷ es) r there = ⊎_elim
    (λ (same : title_row e ≡ r). (e, contains_here e es, sym same))
    (λ (later : Contains (map title_row es) r). let it = row_from es r later in (it.0, contains_later e it.0 es it.1, it.2))
    (contains_cases (title_row e) r (map title_row es) there)

pub are_titles : (map_is : Definitions) (es : List Entry) → AreEntries kind.Domain map_is es → AreTitles map_is (map title_row es)
are_titles map_is es are = record {
  rising = all_rise es are.rising;
  from = λ r there. let it = row_from es r there in let found = are.from it.0 it.1 in (found.0, it.0, found.1, it.2);
  all = λ uuid e is. contains_map title_row es e (are.all uuid e is);
}
