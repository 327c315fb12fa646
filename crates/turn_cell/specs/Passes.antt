-- What callers see of a pass and of a turn.
use Rattle.std.specs.Prelude.{◌≡◌, ◌≢◌, ◌⊎◌, ℕ, ◌+◌, ◌++◌, ◌||◌, ◌<◌, ◌≤◌, Bool, true, false, List, [], ◌∷◌, Option, None, Some}
use Rattle.atomic_table.specs.Table.{Me}
use Rattle.atomic_table.specs.Seated.{TableId}
use Rattle.history_spec.specs.declared.history.History.{History}
use Rattle.history_spec.specs.declared.history.Ended.{Ended}
use Rattle.history_spec.specs.Chapter.{GoesOn, added, tagged, in_chapter}
use Rattle.history_spec.specs.Front.{longer_history}
use Rattle.history_spec.specs.Pass.{AreOf, mine_after, held_after}
use Rattle.turn_cell.specs.Meaning.{Meaning}
use Rattle.turn_cell.specs.Known.{IsBegun, HasMarks, IsAmong, AreApart, Rests, own_in, turns_of_ended}
use Rattle.turn_cell.specs.Steps.{HasEnded, Finds, IsNew, with_stage, one_part}
use Rattle.turn_cell.specs.declared.view.Stage.{Stage}
use Rattle.turn_cell.specs.declared.view.Stage.TheVariants.{Idle, Waiting, Holding, Published}
use Rattle.turn_cell.specs.declared.view.View.{View}

-- a pass: B is the base of a chapter, M a mark, S what a value keeps for one number
pub record Passed (B M S : Type 0) : Type 0 where
  pub cell : TableId
  -- the ticket of the cell's first turn
  pub first : ℕ
  pub number : ℕ
  -- the history as it last saw it
  pub seen : History B M
  -- its own marks, with the numbers of their chapters
  pub mine : List (ℕ × M)
  -- the history as it was when the pass last left a mark of its own
  pub held : History B M
  -- what the value keeps for its number
  pub share : S
  -- how many turns it had
  pub turns : ℕ
  -- the passes that were joined into it
  pub ended : List (Ended M)
  -- its parts of the right to close
  pub parts : ℕ
  -- no ticket is left
  pub spent : Bool

-- a turn: T is the value
pub record Turned (T B M S : Type 0) : Type 0 where
  -- the pass that has the turn, as it entered, with this turn counted
  pub pass : Passed B M S
  pub ticket : ℕ
  -- the value that was found
  pub entry : T
  -- the value now
  pub value : T

module _ {T : Type 0} where
  abbrev pub ticket_of : Stage T → ℕ
  ticket_of Idle = 0
  ticket_of (Waiting t) = t
  ticket_of (Holding t found) = t
  ticket_of (Published t left) = t

  abbrev pub found_or : T → Stage T → T
  found_or value (Holding t found) = found
  found_or value other = value

module _ {T B M S : Type 0} where
  abbrev pub passed : TableId → View T B M S → Passed B M S
  passed cell v = record {
    cell = cell;
    first = v.first;
    number = v.knows.number;
    seen = v.knows.seen;
    mine = v.knows.mine;
    held = v.knows.held;
    share = v.knows.share;
    turns = v.turns;
    ended = v.knows.ended;
    parts = v.knows.parts;
    spent = v.spent;
  }

  -- between turns: it has no ticket and no slot
  pub record IsIdle (me : Me (Option T) (View T B M S)) (is_spent : Bool) : Type 0 where
    pub stage : me.0.stage ≡ Idle
    pub slot : me.1 ≡ []
    pub parts : 0 < me.0.knows.parts
    pub named : me.0.knows.named ≡ true
    pub spent : me.0.spent ≡ is_spent

  -- in a turn: it has a ticket, and the slot without the value
  pub record IsTurn (me : Me (Option T) (View T B M S)) : Type 0 where
    pub ticket : ℕ
    pub found : T
    pub stage : me.0.stage ≡ Holding ticket found
    pub slot : me.1 ≡ (0, None) ∷ []
    pub parts : 0 < me.0.knows.parts
    pub named : me.0.knows.named ≡ true
    pub spent : me.0.spent ≡ false

  -- a part can be cut off
  pub record CanPart (me : Me (Option T) (View T B M S)) : Type 0 where
    pub stage : me.0.stage ≡ Idle
    pub named : me.0.knows.named ≡ true
    pub parts : 1 < me.0.knows.parts

-- two passes joined: the first, with what the second had seen and had done
abbrev pub joined : {B M S : Type 0} → Passed B M S → Passed B M S → Passed B M S
joined one other = record one {
  seen = longer_history one.seen other.seen;
  ended = one.ended ++ record { number = other.number; turns = other.turns; mine = other.mine } ∷ other.ended;
  parts = one.parts + other.parts;
  spent = one.spent || other.spent;
}

-- how many turns a pass and those that were joined into it had
abbrev pub turns_of_all : {B M S : Type 0} → Passed B M S → ℕ
turns_of_all pass = pass.turns + turns_of_ended pass.ended

-- the number is one of these, or it is nobody's
abbrev pub BelongsTo : {M : Type 0} → ℕ → List (Ended M) → Option ℕ → Type 0
BelongsTo number ended None = Unit {0}
BelongsTo number ended (Some n) = (n ≡ number) ⊎ IsAmong n ended

module _ {T B M S : Type 0} (K : Meaning T B M S) where
  -- what a pass knows between turns
  abbrev pub IsSettled : Passed B M S → Type 0
  IsSettled pass = Rests K pass.number pass.seen pass.held pass.mine pass.ended

  -- the first pass of a value, at a cell whose first turn has this ticket
  abbrev pub IsFirst : T → ℕ → Passed B M S → Type 0
  IsFirst value first pass = let h = K.history value in pass ≡ record {
    cell = pass.cell;
    first = first;
    number = 0;
    seen = h;
    mine = tagged h.chapter (own_in K 0 h);
    held = h;
    share = K.share value 0;
    turns = 0;
    ended = [];
    parts = 4611686018427387904;
    spent = false;
  }

  -- a turn that a pass got, and what it finds in the value
  pub record Enters (before : Passed B M S) (turn : Turned T B M S) : Type 0 where
    pub pass : turn.pass ≡ record before { turns = before.turns + 1 }
    pub fresh : before.spent ≡ false
    pub value : turn.value ≡ turn.entry
    pub seen : IsBegun K before.seen (K.history turn.entry)
    pub mine : HasMarks K before.number before.mine (K.history turn.entry)
    pub share : K.share turn.entry before.number ≡ before.share
    pub ended : HasEnded K turn.entry before.ended
    pub apart : AreApart before.number before.ended
    pub held : IsBegun K before.held before.seen
    pub own : HasMarks K before.number before.mine before.seen
    pub later : (c : ℕ) → before.seen.chapter < c → in_chapter c before.mine ≡ []
    pub chapter : (K.history turn.entry).chapter ≤ turn.ticket
    pub ticket : turn.ticket < 4611686018427387904

  -- the pass after a turn
  abbrev pub left_by : Turned T B M S → Passed B M S
  left_by turn = let a = K.history turn.entry in let b = K.history turn.value in record turn.pass {
    seen = b;
    mine = mine_after K.whose turn.pass.number a b turn.pass.mine;
    held = held_after K.whose turn.pass.number a b turn.pass.held;
    share = K.share turn.value turn.pass.number;
  }

  -- a number keeps nothing that it had not
  abbrev pub SameShare : ℕ → T → T → Type 0
  SameShare number a b = (j : ℕ) → j ≢ number → K.share b j ≡ K.share a j

  -- nothing is kept for any number but 0
  abbrev pub KeepsNothing : T → Type 0
  KeepsNothing value = (j : ℕ) → 1 ≤ j → K.share value j ≡ K.nothing

  -- each mark belongs to one of these numbers or to nobody
  abbrev pub AreAmong : ℕ → List (Ended M) → List M → Type 0
  AreAmong number ended [] = Unit {0}
  AreAmong number ended (m ∷ ms) = BelongsTo number ended (K.whose m) × AreAmong number ended ms

  -- what the last pass knows of the value that it gets
  pub record Closes (pass : Passed B M S) (value : T) : Type 0 where
    pub seen : IsBegun K pass.seen (K.history value)
    pub mine : HasMarks K pass.number pass.mine (K.history value)
    pub share : K.share value pass.number ≡ pass.share
    pub ended : HasEnded K value pass.ended
    pub apart : AreApart pass.number pass.ended
    pub all : AreAmong pass.number pass.ended (K.history value).marks

  -- the value was taken out, in the turn of this ticket
  abbrev pub HasTurn : ℕ → Me (Option T) (View T B M S) → Me (Option T) (View T B M S) → T → Type 0
  HasTurn t me now value = (now ≡ (with_stage me.0 (Holding t value), (0, None) ∷ [])) × Finds K value t me.0.knows

  -- the value may be left where the turn found another
  pub record Leaves (me : Me (Option T) (View T B M S)) (left : T) : Type 0 where
    pub turn : IsTurn me
    pub goes_on : GoesOn (K.next_base turn.found) (K.history turn.found) (K.history left)
    pub marks : AreOf K.whose me.0.knows.number (added (K.history turn.found) (K.history left))
    pub others : SameShare me.0.knows.number turn.found left

  -- the pass that is cut off: it has seen as much, has nothing of its own, and its number is that of no pass and no
  -- mark that the other one knows
  pub record IsCutOff (pass cut : Passed B M S) : Type 0 where
    pub number : cut.number ≢ pass.number
    pub ended : IsAmong cut.number pass.ended → ⊥
    pub marks : own_in K cut.number pass.seen ≡ []
    pub rest : cut ≡ record {
      cell = pass.cell;
      first = pass.first;
      number = cut.number;
      seen = pass.seen;
      mine = [];
      held = pass.seen;
      share = K.nothing;
      turns = 0;
      ended = [];
      parts = 1;
      spent = pass.spent;
    }

  -- two seats can be put together
  pub record CanJoin (one other : Me (Option T) (View T B M S)) : Type 0 where
    pub one_is : IsIdle one one.0.spent
    pub other_is : IsIdle other other.0.spent
    pub empty : other.0.knows.share ≡ K.nothing

  -- a seat that was cut off this view, with a number of its own
  abbrev pub IsNewPart : View T B M S → Me (Option T) (View T B M S) → Type 0
  IsNewPart v now = let u = one_part K.nothing v in (n : ℕ) × IsNew K n u.knows × (now ≡ (record u { knows = record u.knows { named = true; number = n } }, []))
