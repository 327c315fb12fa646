-- What runs calls.
use Rattle.std.specs.Prelude.{ℕ, ◌+◌, List, Option}
use Rattle.virt_types.specs.Below.types_base.declared.caller.Who.{Who}

-- what an activity has at hand: its row, and the words that were drawn for it so far, where their source reports them
pub record Hand (W : Type 0) : Type 0 where
  pub row : W
  pub drawn : Option (List ℕ)

-- an activity between two calls, and who the next one is
pub record Activity (W : Type 0) : Type 0 where
  pub at_hand : Hand W
  pub next : Who

-- what is at hand with this row, after these words
abbrev pub hand : {W : Type 0} → W → Option (List ℕ) → Hand W
hand row drawn = record { row = row; drawn = drawn }

-- an activity with this at hand, whose next call is that one
abbrev pub activity : {W : Type 0} → W → Option (List ℕ) → Who → Activity W
activity row drawn next = record { at_hand = hand row drawn; next = next }

-- the n-th call of this lane of a session
abbrev pub call_of : ℕ → ℕ → ℕ → Who
call_of session lane n = record { session = session; lane = lane; count = n }

-- the call after one
abbrev pub next_who : Who → Who
next_who who = record who { count = who.count + 1 }
