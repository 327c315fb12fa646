-- Why rows can be put together, from the last to the first.
use Rattle.std.proofs.Common.{◌≡◌, ℕ, ◌+◌, ◌-◌, List, [], ◌∷◌, ◌++◌, Option, Some, None, length, map, take, refl, sym, ap, ◌∙◌, subst, arith}
use Rattle.std.specs.List.{All}
use Rattle.std.specs.Option.{option_to_list}
use Rattle.std.proofs.lemmas.List.{append_assoc, append-nil, length-append, take_at}
use Rattle.std.proofs.lemmas.List.Elements.{All-pop, All-same}
use Rattle.atomic_table.specs.Seated.{TableId}
use Rattle.turn_cell.specs.Meaning.{Meaning}
use Rattle.types_base.specs.Room.{Roomy}
use Rattle.turn_cell.specs.Passes.{Passed}
use Rattle.pass_rows.specs.Cutting.{cell_of}
use Rattle.pass_rows.specs.Rows.{PassRow, IsOf}
use Rattle.pass_rows.specs.Joining.{all_but_last, AreJoined, AreJoinedRows, HasJoined, HoldsNothingRow, IsJoined, IsJoinedRow}

module _ {T B M S : Type 0} (K : Meaning T B M S) where
  joined_cells : (ps qs rs : List (Passed B M S)) → AreJoined K ps qs rs → map cell_of rs ≡ map cell_of ps
  joined_cells [] [] [] all = refl
  joined_cells [] [] (r ∷ rs) all = absurd all
  joined_cells [] (q ∷ qs) rs all = absurd all
  joined_cells (p ∷ ps) [] rs all = absurd all
  joined_cells (p ∷ ps) (q ∷ qs) [] all = absurd all
  joined_cells (p ∷ ps) (q ∷ qs) (r ∷ rs) all = λ i. (ap (λ (x : Passed B M S). x.cell) all.0.is) i ∷ joined_cells ps qs rs all.1 i

module _ {TL BL ML SL TS BS MS SS TD BD MD SD G : Type 0} (L : Meaning TL BL ML SL) (S : Meaning TS BS MS SS) (D : Meaning TD BD MD SD) (list store : TableId) (domains : List TableId) where
  still_of : (one other both : PassRow BL ML SL BS MS SS BD MD SD G) → IsOf list store domains one → IsJoinedRow L S D one other both → IsOf list store domains both
  still_of one other both own is = record {
    list_is = ap (λ (x : Passed BL ML SL). x.cell) is.list.is ∙ own.list_is;
    store_is = ap (λ (x : Passed BS MS SS). x.cell) is.store.is ∙ own.store_is;
    domains_are = joined_cells D one.domains other.domains both.domains is.domains ∙ own.domains_are;
  }

  -- what the loop keeps: so many rows are still to be put into the one that has all others
  pub record Going (first rows : List (PassRow BL ML SL BS MS SS BD MD SD G)) (all : PassRow BL ML SL BS MS SS BD MD SD G) : Type 0 where
    pub done : List (PassRow BL ML SL BS MS SS BD MD SD G)
    pub own : PassRow BL ML SL BS MS SS BD MD SD G
    pub first_are : first ≡ (rows ++ done) ++ own ∷ []
    pub joined_are : AreJoinedRows L S D own done all
    pub all_is : IsOf list store domains all
    pub rows_are : All (IsOf list store domains) rows
    pub empty : All (HoldsNothingRow L S D) rows

  pub begin : (first rows : List (PassRow BL ML SL BS MS SS BD MD SD G)) (all : PassRow BL ML SL BS MS SS BD MD SD G) → first ≡ rows ++ all ∷ [] → All (IsOf list store domains) first → All (HoldsNothingRow L S D) (all_but_last first) → Going first rows all
  begin first rows all is own empty =
      let both = All-pop (IsOf list store domains) first rows (Some all) is own in
      let long : length first ≡ length rows + 1 = ap length is ∙ length-append rows (all ∷ []) in
      let count : length first - 1 ≡ length rows = omega arith in
      let front : all_but_last first ≡ rows = (λ i. take (count i) (is i)) ∙ take_at rows (all ∷ []) (length rows) refl in
      record {
        done = [];
        own = all;
        first_are = is ∙ ap (λ (l : List (PassRow BL ML SL BS MS SS BD MD SD G)). l ++ all ∷ []) (sym (append-nil rows));
        joined_are = refl;
        all_is = both.1;
        rows_are = both.0;
        empty = All-same (HoldsNothingRow L S D) rows (all_but_last first) (sym front) empty;
      }

  pub begin_with : (inside given : Roomy (PassRow BL ML SL BS MS SS BD MD SD G)) (rest : List (PassRow BL ML SL BS MS SS BD MD SD G)) (last : Option (PassRow BL ML SL BS MS SS BD MD SD G)) (all : PassRow BL ML SL BS MS SS BD MD SD G)
      → inside ≡ given → inside.list ≡ rest ++ option_to_list last → last ≡ Some all → All (IsOf list store domains) given.list → All (HoldsNothingRow L S D) (all_but_last given.list) → Going given.list rest all
  begin_with inside given rest last all same popped is own empty =
      begin given.list rest all (sym (ap (λ (l : Roomy (PassRow BL ML SL BS MS SS BD MD SD G)). l.list) same) ∙ (popped ∙ ap (λ (o : Option (PassRow BL ML SL BS MS SS BD MD SD G)). rest ++ option_to_list o) is)) own empty

  -- the next row
  pub next_is : (rows rest : List (PassRow BL ML SL BS MS SS BD MD SD G)) (row : PassRow BL ML SL BS MS SS BD MD SD G) → rows ≡ rest ++ row ∷ [] → All (IsOf list store domains) rows → All (HoldsNothingRow L S D) rows → IsOf list store domains row × HoldsNothingRow L S D row
  next_is rows rest row is own empty = ((All-pop (IsOf list store domains) rows rest (Some row) is own).1, (All-pop (HoldsNothingRow L S D) rows rest (Some row) is empty).1)

  pub go_on : (first rows rest : List (PassRow BL ML SL BS MS SS BD MD SD G)) (all row now : PassRow BL ML SL BS MS SS BD MD SD G) → Going first rows all → rows ≡ rest ++ row ∷ [] → IsJoinedRow L S D all row now → Going first rest now
  go_on first rows rest all row now h is joined = record {
    done = row ∷ h.done;
    own = h.own;
    first_are = h.first_are ∙ ap (λ (l : List (PassRow BL ML SL BS MS SS BD MD SD G)). l ++ h.own ∷ []) (ap (λ (l : List (PassRow BL ML SL BS MS SS BD MD SD G)). l ++ h.done) is ∙ append_assoc rest (row ∷ []) h.done);
    joined_are = (all, h.joined_are, joined);
    all_is = still_of all row now h.all_is joined;
    rows_are = (All-pop (IsOf list store domains) rows rest (Some row) is h.rows_are).0;
    empty = (All-pop (HoldsNothingRow L S D) rows rest (Some row) is h.empty).0;
  }

  pub ends : (first rows given : List (PassRow BL ML SL BS MS SS BD MD SD G)) (all : PassRow BL ML SL BS MS SS BD MD SD G) → Going first rows all → rows ≡ [] → first ≡ given → HasJoined L S D given all
  ends first rows given all h none same = record {
    others = h.done;
    own = h.own;
    rows_are = sym same ∙ (h.first_are ∙ ap (λ (l : List (PassRow BL ML SL BS MS SS BD MD SD G)). (l ++ h.done) ++ h.own ∷ []) none);
    joined_are = h.joined_are;
  }
