-- What contracts see in a value that is kept in a turn cell.
use Rattle.std.specs.Prelude.{◌≤◌, ◌++◌, ℕ, List, [], Option}
use Rattle.history_spec.specs.declared.history.History.{History}

-- T is the value, B the base of a chapter, M a mark, and S what the value keeps for one number
pub record Meaning (T B M S : Type 0) : Type 0 where
  -- the number, base and marks of the chapter that the value is in
  pub history : T → History B M
  -- the base of the next chapter, if it were begun now
  pub next_base : T → B
  -- the rising number at the end of a chapter of this base with these marks
  pub rising : B → List M → ℕ
  -- the number that a mark bears, or none where it belongs to nobody
  pub whose : M → Option ℕ
  -- what the value keeps for a number alone
  pub share : T → ℕ → S
  -- what is kept where nothing is kept
  pub nothing : S
  -- some base, for passes that are used up
  pub any_base : B

module _ {T B M S : Type 0} (K : Meaning T B M S) where
  -- no mark lowers the rising number
  abbrev pub NoMarkLowers : Type 0
  NoMarkLowers = (b : B) (xs ys : List M) → K.rising b xs ≤ K.rising b (xs ++ ys)

  -- the base of a new chapter keeps the rising number
  abbrev pub NewBaseKeeps : Type 0
  NewBaseKeeps = (t : T) → K.rising (K.history t).base (K.history t).marks ≤ K.rising (K.next_base t) []
