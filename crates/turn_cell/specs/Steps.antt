-- What a seat learns in each step.
use Rattle.std.specs.Prelude.{◌≡◌, ◌≢◌, ℕ, ◌+◌, ◌-◌, ◌++◌, ◌||◌, ◌<◌, ◌≤◌, ◌==◌, Bool, true, false, nat_lt, List, [], ◌∷◌, Option, Some, MatchBool}
use Rattle.atomic_table.specs.Table.{Step, Me, rest}
use Rattle.history_spec.specs.declared.history.History.{History}
use Rattle.history_spec.specs.declared.history.Ended.{Ended}
use Rattle.history_spec.specs.Chapter.{in_chapter}
use Rattle.history_spec.specs.Front.{longer_history}
use Rattle.history_spec.specs.Pass.{mine_after, held_after}
use Rattle.turn_cell.specs.Meaning.{Meaning}
use Rattle.turn_cell.specs.Known.{IsBegun, own_in, HasMarks, IsAmong, AreApart, Rests}
use Rattle.turn_cell.specs.Rule.{turns_in}
use Rattle.turn_cell.specs.declared.view.Stage.{Stage}
use Rattle.turn_cell.specs.declared.view.Stage.TheVariants.{Idle, Waiting, Holding, Published}
use Rattle.turn_cell.specs.declared.view.Knows.{Knows}
use Rattle.turn_cell.specs.declared.view.View.{View}

module _ {T B M S : Type 0} where
  abbrev pub with_stage : View T B M S → Stage T → View T B M S
  with_stage v stage = record v { stage = stage }

  abbrev pub drawn_if : Bool → View T B M S → ℕ → View T B M S
  drawn_if true v n = record v { stage = Waiting n; turns = v.turns + 1 }
  drawn_if false v n = record v { spent = true }

  -- the view after it drew this number: it has a ticket, or is spent
  abbrev pub drawn : View T B M S → ℕ → View T B M S
  drawn v n = drawn_if (nat_lt n 4611686018427387904) v n

  -- where no other view is left, all tickets were drawn for its turns
  abbrev pub IsUsedUp : View T B M S → Type 0
  IsUsedUp v = v.knows.parts ≡ 4611686018427387904 → 4611686018427387904 ≤ v.first + turns_in v

  abbrev pub draws : Step (Option T) → Me (Option T) (View T B M S) → ℕ → Me (Option T) (View T B M S) → Type 0
  draws st me found now = (now ≡ (drawn me.0 found, me.1)) × (4611686018427387904 ≤ found → IsUsedUp me.0)

module _ {T B M S : Type 0} (K : Meaning T B M S) where
  -- the marks that are kept for ended numbers are all that they have, and nothing else is kept for them
  abbrev pub HasEnded : T → List (Ended M) → Type 0
  HasEnded value [] = Unit {0}
  HasEnded value (e ∷ es) = HasMarks K e.number e.mine (K.history value) × (K.share value e.number ≡ K.nothing) × HasEnded value es

  -- what a pass finds in the value, in the turn of its ticket
  pub record Finds (value : T) (t : ℕ) (k : Knows B M S) : Type 0 where
    pub seen : IsBegun K k.seen (K.history value)
    pub chapter : (K.history value).chapter ≤ t
    pub mine : k.named ≡ true → HasMarks K k.number k.mine (K.history value)
    pub share : k.named ≡ true → K.share value k.number ≡ k.share
    pub held : IsBegun K k.held k.seen
    pub own : k.named ≡ true → HasMarks K k.number k.mine k.seen
    pub later : (c : ℕ) → k.seen.chapter < c → in_chapter c k.mine ≡ []
    pub ended : HasEnded value k.ended
    pub apart : k.named ≡ true → AreApart k.number k.ended

  abbrev pub Takes : ℕ → Me (Option T) (View T B M S) → Me (Option T) (View T B M S) → Type 0
  Takes t me now = (value : T) × (now ≡ (with_stage me.0 (Holding t value), (0, Some value) ∷ me.1)) × Finds value t me.0.knows

  abbrev pub LooksFrom : Me (Option T) (View T B M S) → ℕ → Me (Option T) (View T B M S) → Stage T → Type 0
  LooksFrom me found now (Waiting t) = MatchBool (found == t) (Takes t me now) (now ≡ me)
  LooksFrom me found now other = now ≡ me

  -- looking: where the number found is the ticket, the value is taken
  abbrev pub looks : Step (Option T) → Me (Option T) (View T B M S) → ℕ → Me (Option T) (View T B M S) → Type 0
  looks st me found now = LooksFrom me found now me.0.stage

  -- what a pass knows once it has left a value where it found another
  abbrev pub knows_after : T → T → Knows B M S → Knows B M S
  knows_after found left k = let a = K.history found in let b = K.history left in record k {
    seen = b;
    met = (b, b);
    mine = mine_after K.whose k.number a b k.mine;
    held = held_after K.whose k.number a b k.held;
    share = K.share left k.number;
  }

  abbrev pub left_at : Stage T → View T B M S → T → View T B M S
  left_at (Holding t found) v value = record v { stage = Published t value; knows = knows_after found value v.knows }
  left_at other v value = v

  -- publishing: the value that was put into the slot is the one that counts
  abbrev pub publishes : Step (Option T) → Me (Option T) (View T B M S) → ℕ → Me (Option T) (View T B M S) → Type 0
  publishes st me found now = (value : T) → me.1 ≡ (0, Some value) ∷ [] → now ≡ (left_at me.0.stage me.0 value, me.1)

  abbrev pub RestsIn : View T B M S → Type 0
  RestsIn v = Rests K v.knows.number v.knows.seen v.knows.held v.knows.mine v.knows.ended

  -- passing on: the ticket is given up, and the slot
  abbrev pub passes_on : Step (Option T) → Me (Option T) (View T B M S) → ℕ → Me (Option T) (View T B M S) → Type 0
  passes_on st me found now = (now ≡ (with_stage me.0 Idle, rest me.1)) × (me.0.knows.named ≡ true → RestsIn me.0)

-- cutting a part off
module _ {T B M S : Type 0} where
  abbrev pub one_fewer : View T B M S → View T B M S
  one_fewer v = record v { knows = record v.knows { parts = v.knows.parts - 1 } }

  -- the new view has no number yet, and bears that of the old one
  abbrev pub one_part : S → View T B M S → View T B M S
  one_part nothing v = record {
    stage = Idle;
    first = v.first;
    turns = 0;
    spent = v.spent;
    knows = record {
      named = false;
      number = v.knows.number;
      parts = 1;
      seen = v.knows.seen;
      met = (v.knows.seen, v.knows.seen);
      mine = [];
      held = v.knows.seen;
      share = nothing;
      ended = [];
      older = v.knows.ended;
    };
  }

  -- putting two views together: the number and marks of the second are kept as ended
  abbrev pub together : View T B M S → View T B M S → View T B M S
  together v w = record v {
    spent = v.spent || w.spent;
    knows = record v.knows {
      parts = v.knows.parts + w.knows.parts;
      seen = longer_history v.knows.seen w.knows.seen;
      met = (v.knows.seen, w.knows.seen);
      ended = v.knows.ended ++ record { number = w.knows.number; turns = w.turns; mine = w.knows.mine } ∷ w.knows.ended;
    };
  }

module _ {T B M S : Type 0} (K : Meaning T B M S) where
  -- a number that is new to this knowledge: no mark in it has that number, nor any pass
  pub record IsNew (n : ℕ) (k : Knows B M S) : Type 0 where
    pub number : n ≢ k.number
    pub ended : IsAmong n k.older → ⊥
    pub marks : own_in K n k.seen ≡ []

  -- taking a number
  abbrev pub is_named : Step (Option T) → Me (Option T) (View T B M S) → ℕ → Me (Option T) (View T B M S) → Type 0
  is_named st me found now = (n : ℕ) × IsNew n me.0.knows × (now ≡ (record me.0 { knows = record me.0.knows { named = true; number = n } }, me.1))

  -- the view that is left of the one joined
  abbrev pub used_up : View T B M S
  used_up = let h : History B M = record { chapter = 0; base = K.any_base; marks = [] } in record {
    stage = Idle;
    first = 0;
    turns = 0;
    spent = false;
    knows = record { named = false; number = 0; parts = 0; seen = h; met = (h, h); mine = []; held = h; share = K.nothing; ended = []; older = [] };
  }

  -- what a view knows of the two that were put together: one history
  pub record Meets (v : View T B M S) : Type 0 where
    pub one : IsBegun K v.knows.met.0 v.knows.seen
    pub other : IsBegun K v.knows.met.1 v.knows.seen
    pub rests : v.knows.named ≡ true → RestsIn K v

  abbrev pub meets : Step (Option T) → Me (Option T) (View T B M S) → ℕ → Me (Option T) (View T B M S) → Type 0
  meets st me found now = (now ≡ me) × Meets me.0
