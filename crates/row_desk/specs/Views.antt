-- What contracts see in the desk of a row.
use Rattle.std.specs.Prelude.{ℕ, List, [], false}
use Rattle.atomic_table.specs.Seated.{TableId}
use Rattle.def_map.specs.Map.{no_rows}
use Rattle.def_keeper.specs.Marks.{StoreHistory}
use Rattle.domain_spec.specs.Types.{Answer, Ask}
use Rattle.store_asks.specs.Turning.{StorePass as TheStorePass}

-- a pass of the store
abbrev pub StorePass : Type 0
StorePass = TheStorePass

-- the row's maker of guests, its pass of the store, and what was asked, each ask with its answer, but for those for which
-- there was no memory
pub record DeskView (G : Type 0) : Type 0 where
  pub guests : G
  pub store : StorePass
  pub report : List (Ask × Answer)

-- nothing happened to a store
abbrev pub no_history : StoreHistory
no_history = record { chapter = 0; base = record { map = no_rows; begun = 0 }; marks = [] }

-- some cell
abbrev pub no_cell : TableId
no_cell = record { words = 0; slots = 0; views_name = 0; atom = 0; block = 0; offset = 0; slot_names = [] }

-- some pass, where nobody says which one
abbrev pub no_pass : StorePass
no_pass = record {
  cell = no_cell;
  first = 0;
  number = 0;
  seen = no_history;
  mine = [];
  held = no_history;
  share = tt;
  turns = 0;
  ended = [];
  parts = 0;
  spent = false;
}
