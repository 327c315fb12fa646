-- Passes that are put together, and rows of them.
use Rattle.std.specs.Prelude.{◌≡◌, ◌-◌, List, [], ◌∷◌, ◌++◌, length, take}
use Rattle.std.specs.List.{All}
use Rattle.turn_cell.specs.Meaning.{Meaning}
use Rattle.turn_cell.specs.Known.{IsBegun}
use Rattle.turn_cell.specs.Passes.{Passed, joined}
use Rattle.pass_rows.specs.Rows.{PassRow}

module _ {T B M S : Type 0} (K : Meaning T B M S) where
  -- the second pass was put into the first: what both have seen begins what it has seen now
  pub record IsJoined (one other both : Passed B M S) : Type 0 where
    pub is : both ≡ joined one other
    pub one_seen : IsBegun K one.seen both.seen
    pub other_seen : IsBegun K other.seen both.seen

  -- of passes one by one
  abbrev pub AreJoined : List (Passed B M S) → List (Passed B M S) → List (Passed B M S) → Type 0
  AreJoined [] [] [] = Unit {0}
  AreJoined (p ∷ ps) (q ∷ qs) (r ∷ rs) = IsJoined p q r × AreJoined ps qs rs
  AreJoined ps qs rs = ⊥

  -- nothing is kept for a pass
  abbrev pub HoldsNothing : Passed B M S → Type 0
  HoldsNothing pass = pass.share ≡ K.nothing

module _ {TL BL ML SL TS BS MS SS TD BD MD SD G : Type 0} (L : Meaning TL BL ML SL) (S : Meaning TS BS MS SS) (D : Meaning TD BD MD SD) where
  -- nothing is kept for any pass of the row
  pub record HoldsNothingRow (row : PassRow BL ML SL BS MS SS BD MD SD G) : Type 0 where
    pub list : HoldsNothing L row.list
    pub store : HoldsNothing S row.store
    pub domains : All (HoldsNothing D) row.domains

  -- the passes of the second row were put into those of the first, whose maker of guests stays
  pub record IsJoinedRow (one other both : PassRow BL ML SL BS MS SS BD MD SD G) : Type 0 where
    pub list : IsJoined L one.list other.list both.list
    pub store : IsJoined S one.store other.store both.store
    pub domains : AreJoined D one.domains other.domains both.domains
    pub guests : both.guests ≡ one.guests

  -- rows were put into a row, from the last of them to the first
  abbrev pub AreJoinedRows : PassRow BL ML SL BS MS SS BD MD SD G → List (PassRow BL ML SL BS MS SS BD MD SD G) → PassRow BL ML SL BS MS SS BD MD SD G → Type 0
  AreJoinedRows own [] all = all ≡ own
  AreJoinedRows own (row ∷ rows) all = (mid : PassRow BL ML SL BS MS SS BD MD SD G) × AreJoinedRows own rows mid × IsJoinedRow mid row all

  -- a list of rows became one: the others were put into the last
  pub record HasJoined (rows : List (PassRow BL ML SL BS MS SS BD MD SD G)) (all : PassRow BL ML SL BS MS SS BD MD SD G) : Type 0 where
    pub others : List (PassRow BL ML SL BS MS SS BD MD SD G)
    pub own : PassRow BL ML SL BS MS SS BD MD SD G
    pub rows_are : rows ≡ others ++ own ∷ []
    pub joined_are : AreJoinedRows own others all

-- all but the last
abbrev pub all_but_last : {X : Type 0} → List X → List X
all_but_last xs = take (length xs - 1) xs
