-- The rule of a lane's queue: what was put is what was taken and then what is held. One end may put, and knows what was
-- put; one may take, and knows what was taken. No public clause cites this.
use Rattle.std.specs.Prelude.{◌≡◌, ℕ, Bool, true, false, List, [], ◌∷◌, ◌++◌}
use mathlib.Core.Option.{some}
use lib.ListN.{get_elem?}
use Rattle.lanes.specs.declared.rule.Knows.{Knows}

module _ {T : Type 0} where
  abbrev pub knows : Bool → Bool → List T → List T → Knows T
  knows puts takes put taken = record { puts = puts; takes = takes; put = put; taken = taken }

  -- before the ends part
  abbrev pub newcomer : Knows T
  newcomer = knows true true [] []

  abbrev pub put_half : Knows T → Knows T
  put_half v = knows true false v.put []

  abbrev pub take_half : Knows T → Knows T
  take_half v = knows false true [] v.taken

  abbrev pub both_halves : Knows T → Knows T → Knows T
  both_halves v w = knows true true v.put w.taken

  abbrev pub used_up : Knows T
  used_up = knows false false [] []

  abbrev pub has_put : Knows T → T → Knows T
  has_put v x = record v { put = v.put ++ x ∷ [] }

  abbrev pub has_taken : Knows T → T → Knows T
  has_taken v x = record v { taken = v.taken ++ x ∷ [] }

  -- the pass of this number is the one that puts, if it may, and the one that takes, if it may
  abbrev pub Fits : ℕ → ℕ → List T → List T → ℕ → Knows T → Type 0
  Fits putter taker put taken number v = (v.puts ≡ true → (number ≡ putter) × (v.put ≡ put)) × (v.takes ≡ true → (number ≡ taker) × (v.taken ≡ taken))

  abbrev pub IsInOrder : List T → List (Knows T) → Type 0
  IsInOrder items views = (putter : ℕ) × (taker : ℕ) × (put : List T) × (taken : List T) × (put ≡ taken ++ items)
      × ((number : ℕ) (v : Knows T) → get_elem? views number ≡ some v → Fits putter taker put taken number v)

  -- what a pass learns of what is held
  abbrev pub Sees : Knows T → List T → Type 0
  Sees v items = (put : List T) × (taken : List T) × (put ≡ taken ++ items) × (v.puts ≡ true → v.put ≡ put) × (v.takes ≡ true → v.taken ≡ taken)
