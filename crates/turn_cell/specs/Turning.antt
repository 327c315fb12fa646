-- What the caller of a cell knows after turns, whatever the value.
use Rattle.std.specs.Prelude.{◌≡◌, ℕ, ◌+◌, ◌++◌, false, List, [], ◌∷◌, Some}
use Rattle.history_spec.specs.Chapter.{GoesOn, added, tagged}
use Rattle.history_spec.specs.Pass.{own, AreOf, mine_after, held_after}
use Rattle.turn_cell.specs.Meaning.{Meaning}
use Rattle.turn_cell.specs.Known.{IsBegun}
use Rattle.turn_cell.specs.Passes.{Passed, Turned, Enters, SameShare, left_by}

-- it is the same pass, with the same right to close
pub record SamePass {B M S : Type 0} (before after : Passed B M S) : Type 0 where
  pub cell : after.cell ≡ before.cell
  pub first : after.first ≡ before.first
  pub number : after.number ≡ before.number
  pub parts : after.parts ≡ before.parts
  pub ended : after.ended ≡ before.ended

module _ {T B M S : Type 0} (K : Meaning T B M S) where
  -- each mark bears this number
  abbrev pub AreBy : ℕ → List M → Type 0
  AreBy number [] = Unit {0}
  AreBy number (m ∷ ms) = (K.whose m ≡ Some number) × AreBy number ms

  -- a change that a pass of this number may leave, with these marks of its own
  pub record Changes (number : ℕ) (more : List M) (entry left : T) : Type 0 where
    pub goes_on : GoesOn (K.next_base entry) (K.history entry) (K.history left)
    pub marks : AreOf K.whose number (added (K.history entry) (K.history left))
    pub others : SameShare K number entry left
    pub own_marks : own K.whose number (added (K.history entry) (K.history left)) ≡ more

  -- a pass, after a turn in which the value that it found became the one that it left
  pub record HasTurned (before after : Passed B M S) (entry left : T) : Type 0 where
    pub same : SamePass before after
    pub fresh : before.spent ≡ false
    pub spent : after.spent ≡ false
    pub turns : after.turns ≡ before.turns + 1
    pub found : IsBegun K before.seen (K.history entry)
    pub seen : after.seen ≡ K.history left
    pub mine : after.mine ≡ mine_after K.whose before.number (K.history entry) (K.history left) before.mine
    pub held_before : IsBegun K before.held before.seen
    pub held : after.held ≡ held_after K.whose before.number (K.history entry) (K.history left) before.held
    pub share_found : K.share entry before.number ≡ before.share
    pub share : after.share ≡ K.share left before.number

  -- `held` stays where there are no own marks, and is of after `seen` where there are
  abbrev pub Holds : List (ℕ × M) → Passed B M S → Passed B M S → Type 0
  Holds [] before after = after.held ≡ before.held
  Holds (m ∷ ms) before after = IsBegun K before.seen after.held

  -- a pass, after so many turns in which it left these marks of its own and no others
  pub record Went (turns : ℕ) (more : List (ℕ × M)) (before after : Passed B M S) : Type 0 where
    pub same : SamePass before after
    pub spent : after.spent ≡ before.spent
    pub turns_rose : after.turns ≡ before.turns + turns
    pub seen : IsBegun K before.seen after.seen
    pub mine : after.mine ≡ before.mine ++ more
    pub held : Holds more before after
    pub held_seen : IsBegun K before.held before.seen → IsBegun K after.held after.seen

  -- after a turn with a change its caller knows all this
  abbrev pub TurnTells : Type 0
  TurnTells = (more : List M) (before after : Passed B M S) (turn now : Turned T B M S) → Enters K before turn → now ≡ record turn { value = now.value } → Changes turn.pass.number more turn.value now.value → after ≡ left_by K now
      → HasTurned before after turn.entry now.value × Went 1 (tagged (K.history now.value).chapter more) before after

  -- turns after turns are so many turns, with the marks of both
  abbrev pub TurnsAddUp : Type 0
  TurnsAddUp = (m n : ℕ) (xs ys : List (ℕ × M)) (a b c : Passed B M S) → Went m xs a b → Went n ys b c → Went (m + n) (xs ++ ys) a c
