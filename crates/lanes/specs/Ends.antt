-- What callers see of an end of a lane.
use Rattle.std.specs.Prelude.{◌≡◌, ℕ, Bool, true, List, [], ◌∷◌, ◌++◌, length}
use Rattle.atomic_table.specs.Seated.{TableId}
use Rattle.crossbeam_queue.specs.Passes.{Pass, view}
use Rattle.lanes.specs.declared.rule.Knows.{Knows}

-- T is a piece
pub record End (T : Type 0) : Type 0 where
  -- which lane it is an end of
  pub lane : TableId
  -- how many pieces that holds at most
  pub most : ℕ
  -- what this end may do
  pub puts : Bool
  pub takes : Bool
  -- all that was put, in order, where this end may put
  pub put : List T
  -- all that was taken, in order, where this end may take
  pub taken : List T

module _ {T : Type 0} where
  abbrev pub end_of : ℕ → Pass T (Knows T) → End T
  end_of most pass = let v = view pass in record { lane = pass.table_id; most = most; puts = v.puts; takes = v.takes; put = v.put; taken = v.taken }

  -- an end of a new lane
  abbrev pub fresh : TableId → ℕ → Bool → Bool → End T
  fresh lane most puts takes = record { lane = lane; most = most; puts = puts; takes = takes; put = []; taken = [] }

  -- an end, once it put a piece
  abbrev pub has_put : End T → T → End T
  has_put end piece = record end { put = end.put ++ piece ∷ [] }

  -- an end, once it took a piece
  abbrev pub has_taken : End T → T → End T
  has_taken end piece = record end { taken = end.taken ++ piece ∷ [] }

  -- the end that puts, with what the end that takes may do
  abbrev pub joined : End T → End T → End T
  joined end other = record end { takes = true; taken = other.taken }

  -- each piece that was put was taken, once and in order, or is left
  abbrev pub AreInOrder : List T → List T → Type 0
  AreInOrder put taken = (left : List T) × (put ≡ taken ++ left)

  -- at one moment of a call the lane held so many pieces: what was put by then is what was taken by then, and these
  pub record HeldThen (count : ℕ) (end : End T) : Type 0 where
    pub put : List T
    pub taken : List T
    pub held : List T
    pub count_is : length held ≡ count
    pub whole : put ≡ taken ++ held
    pub is_put : end.puts ≡ true → end.put ≡ put
    pub is_taken : end.takes ≡ true → end.taken ≡ taken
