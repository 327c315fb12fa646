-- What contracts see of a row of passes: one of the list, one of the store, and one for each slot of the list; a maker of
-- guests; and the count of the statuses of boots that its calls could not keep.
use Rattle.std.specs.Prelude.{◌≡◌, ℕ, ◌+◌, ◌-◌, ◌≤◌, List, ◌++◌, ◌∷◌, [], length, map}
use Rattle.std.specs.List.{All, AllZip}
use Rattle.atomic_table.specs.Seated.{TableId}
use Rattle.turn_cell.specs.Meaning.{Meaning}
use Rattle.turn_cell.specs.Passes.{Passed, IsCutOff}
use Rattle.pass_rows.specs.Cutting.{cell_of, fewer, HasParts}
use Rattle.pass_rows.specs.Resting.{IsIdle}

-- a row: a pass of the list, one of the store, one of the domain in each slot, what makes guests, and how many statuses were not kept
pub record RowView (L S D G : Type 0) : Type 0 where
  pub list : L
  pub store : S
  pub domains : List D
  pub guests : G
  pub unkept : ℕ

-- a row, where the chapters of the list begin with BL and its marks are ML, and so on
abbrev pub PassRow : (BL ML SL BS MS SS BD MD SD G : Type 0) → Type 0
PassRow BL ML SL BS MS SS BD MD SD G = RowView (Passed BL ML SL) (Passed BS MS SS) (Passed BD MD SD) G

module _ {BL ML SL BS MS SS BD MD SD G : Type 0} where
  -- the row after so many parts of each pass were cut off
  abbrev pub fewer_row : ℕ → PassRow BL ML SL BS MS SS BD MD SD G → PassRow BL ML SL BS MS SS BD MD SD G
  fewer_row count row = record row { list = fewer count row.list; store = fewer count row.store; domains = map (fewer count) row.domains }

  -- each pass is of its cell
  pub record IsOf (list store : TableId) (domains : List TableId) (row : PassRow BL ML SL BS MS SS BD MD SD G) : Type 0 where
    pub list_is : row.list.cell ≡ list
    pub store_is : row.store.cell ≡ store
    pub domains_are : map cell_of row.domains ≡ domains

  -- each pass has at least so many parts
  pub record HasRowParts (count : ℕ) (row : PassRow BL ML SL BS MS SS BD MD SD G) : Type 0 where
    pub list_has : HasParts count row.list
    pub store_has : HasParts count row.store
    pub domains_have : All (HasParts count) row.domains

  -- the row has the same passes, but its maker of guests may be another by now
  abbrev pub KeepsPasses : (before after : PassRow BL ML SL BS MS SS BD MD SD G) → Type 0
  KeepsPasses before after = after ≡ record before { guests = after.guests }

module _ {TL BL ML SL TS BS MS SS TD BD MD SD G : Type 0} (L : Meaning TL BL ML SL) (S : Meaning TS BS MS SS) (D : Meaning TD BD MD SD) where
  -- each pass has tickets left, and its cell keeps nothing for it
  pub record IsIdleRow (row : PassRow BL ML SL BS MS SS BD MD SD G) : Type 0 where
    pub list : IsIdle L row.list
    pub store : IsIdle S row.store
    pub domains : All (IsIdle D) row.domains

  -- a new row, each pass of which was cut off that of the row: it has seen as much, has another number, and nothing is
  -- kept for it; no status of the new row is counted
  pub record IsCutOffRow (row new : PassRow BL ML SL BS MS SS BD MD SD G) : Type 0 where
    pub list : IsCutOff L row.list new.list
    pub store : IsCutOff S row.store new.store
    pub domains : AllZip (IsCutOff D) row.domains new.domains
    pub unkept : new.unkept ≡ 0

  -- a row became so many: new ones, and itself, which is the last of them
  pub record IsSplit (count : ℕ) (row : PassRow BL ML SL BS MS SS BD MD SD G) (rows : List (PassRow BL ML SL BS MS SS BD MD SD G)) : Type 0 where
    pub new : List (PassRow BL ML SL BS MS SS BD MD SD G)
    pub rows_are : rows ≡ new ++ fewer_row (count - 1) row ∷ []
    pub count_is : length new + 1 ≡ count
    pub new_are : All (IsCutOffRow row) new

  -- the same, where its maker of guests made one for each new row, and may have failed meanwhile
  pub record HasSplit (faults : G → ℕ) (count : ℕ) (row : PassRow BL ML SL BS MS SS BD MD SD G) (rows : List (PassRow BL ML SL BS MS SS BD MD SD G)) : Type 0 where
    pub maker : G
    pub failed : faults row.guests ≤ faults maker
    pub is_split : IsSplit count (record row { guests = maker }) rows
