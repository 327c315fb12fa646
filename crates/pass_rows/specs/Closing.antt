-- What rows know of the values of the cells that are closed with all of their passes.
use Rattle.std.specs.Prelude.{◌≡◌, ◌⊎◌, ℕ, ◌<◌, List, [], ◌∷◌, ◌++◌, length, map, take, drop, sum_by, slice_index_or, Option, None, Some}
use Rattle.std.specs.List.{All, flat_map}
use Rattle.turn_cell.specs.Meaning.{Meaning}
use Rattle.turn_cell.specs.Known.{IsBegun, HasMarks}
use Rattle.turn_cell.specs.Passes.{Passed, BelongsTo, Closes}
use Rattle.pass_rows.specs.Rows.{PassRow}
use Rattle.pass_rows.specs.Joining.{HasJoined, IsJoined}

-- the passes of the domain in this slot
abbrev pub passes_at : {BL ML SL BS MS SS BD MD SD G : Type 0} → ℕ → List (PassRow BL ML SL BS MS SS BD MD SD G) → List (Passed BD MD SD)
passes_at slot rows = flat_map (λ row. take 1 (drop slot row.domains)) rows

-- a mark's number is one of these passes', or of one that was put into one of them, or it is nobody's
abbrev pub BelongsToOne : {B M S : Type 0} → List (Passed B M S) → Option ℕ → Type 0
BelongsToOne passes None = Unit {0}
BelongsToOne [] (Some n) = ⊥
BelongsToOne (p ∷ ps) (Some n) = BelongsTo p.number p.ended (Some n) ⊎ BelongsToOne ps (Some n)

module _ {T B M S : Type 0} (K : Meaning T B M S) where
  -- passes were put into one, from the last to the first
  abbrev pub ArePut : Passed B M S → List (Passed B M S) → Passed B M S → Type 0
  ArePut own [] all = all ≡ own
  ArePut own (pass ∷ passes) all = (mid : Passed B M S) × ArePut own passes mid × IsJoined K mid pass all

  -- passes became one: the others were put into the last
  pub record HasGathered (passes : List (Passed B M S)) (all : Passed B M S) : Type 0 where
    pub others : List (Passed B M S)
    pub own : Passed B M S
    pub passes_are : passes ≡ others ++ own ∷ []
    pub put_are : ArePut own others all

  -- what a pass knows of the value: what it has seen begins its history, and its own marks there are those that it kept
  pub record KnowsEnd (value : T) (pass : Passed B M S) : Type 0 where
    pub seen : IsBegun K pass.seen (K.history value)
    pub mine : HasMarks K pass.number pass.mine (K.history value)

  -- each pass knows of the value, and each mark there is of one of them
  pub record HasClosed (passes : List (Passed B M S)) (value : T) : Type 0 where
    pub each : All (KnowsEnd value) passes
    pub whose_marks : All (λ mark. BelongsToOne passes (K.whose mark)) (K.history value).marks

  -- whoever closes a cell with the one that all passes became, knows so
  abbrev pub AllClose : Type 0
  AllClose = (passes : List (Passed B M S)) (all : Passed B M S) (value : T) → HasGathered passes all → Closes K all value → HasClosed passes value

  -- it has the parts of all
  abbrev pub PartsAddUp : Type 0
  PartsAddUp = (passes : List (Passed B M S)) (all : Passed B M S) → HasGathered passes all → all.parts ≡ sum_by (λ pass. pass.parts) passes

module _ {TL BL ML SL TS BS MS SS TD BD MD SD G : Type 0} (L : Meaning TL BL ML SL) (S : Meaning TS BS MS SS) (D : Meaning TD BD MD SD) where
  -- the passes of each cell became one
  pub record HasGatheredEach (rows : List (PassRow BL ML SL BS MS SS BD MD SD G)) (all : PassRow BL ML SL BS MS SS BD MD SD G) : Type 0 where
    pub list : HasGathered L (map (λ row. row.list) rows) all.list
    pub store : HasGathered S (map (λ row. row.store) rows) all.store
    pub domains : (slot : ℕ) (d : Passed BD MD SD) → slot < length all.domains → HasGathered D (passes_at slot rows) (slice_index_or all.domains slot d)

module _ {TL BL ML SL TS BS MS SS TD BD MD SD : Type 0} (L : Meaning TL BL ML SL) (S : Meaning TS BS MS SS) (D : Meaning TD BD MD SD) where
  -- where rows became one, so did the passes of each cell
  abbrev pub RowsGather : Type 0 → Type 0
  RowsGather G = (rows : List (PassRow BL ML SL BS MS SS BD MD SD G)) (all : PassRow BL ML SL BS MS SS BD MD SD G) → HasJoined L S D rows all → HasGatheredEach L S D rows all
