-- The rule's second half: what each pass knows of the value, and whose each mark is.
use Rattle.std.specs.Prelude.{◌≡◌, ◌⊎◌, ℕ, ◌<◌, ◌≤◌, List, [], ◌∷◌, length, sum_by, MatchBool}
use mathlib.Core.Option.{some}
use lib.ListN.{get_elem?}
use Rattle.history_spec.specs.declared.history.History.{History}
use Rattle.history_spec.specs.declared.history.Ended.{Ended}
use Rattle.history_spec.specs.Begins.{Begins, IsPrefix}
use Rattle.history_spec.specs.Chapter.{in_chapter}
use Rattle.history_spec.specs.Pass.{own}
use Rattle.turn_cell.specs.Meaning.{Meaning}
use Rattle.turn_cell.specs.declared.view.Knows.{Knows}

module _ {T B M S : Type 0} (K : Meaning T B M S) where
  -- the first history is a beginning of the second
  abbrev pub IsBegun : History B M → History B M → Type 0
  IsBegun a b = Begins K.rising a b

  -- the marks of a chapter that bear a number
  abbrev pub own_in : ℕ → History B M → List M
  own_in number h = own K.whose number h.marks

  -- the marks kept for a number are those that it has in this chapter
  abbrev pub HasMarks : ℕ → List (ℕ × M) → History B M → Type 0
  HasMarks number kept h = own_in number h ≡ in_chapter h.chapter kept

-- one of these has the number
abbrev pub IsAmong : {M : Type 0} → ℕ → List (Ended M) → Type 0
IsAmong number [] = ⊥
IsAmong number (e ∷ es) = (e.number ≡ number) ⊎ IsAmong number es

-- the j-th view is that of number i, or number i was joined into it
abbrev pub Stands : {B M S : Type 0} → ℕ → ℕ → Knows B M S → Type 0
Stands i j k = (j ≡ i) ⊎ IsAmong i k.ended

-- how many turns these had
abbrev pub turns_of_ended : {M : Type 0} → List (Ended M) → ℕ
turns_of_ended ended = sum_by (λ e. e.turns) ended

-- no two of these have one number
abbrev pub NoTwice : {M : Type 0} → List (Ended M) → Type 0
NoTwice [] = Unit {0}
NoTwice (e ∷ es) = (IsAmong e.number es → ⊥) × NoTwice es

-- this number and those of the ended ones all differ
abbrev pub AreApart : {M : Type 0} → ℕ → List (Ended M) → Type 0
AreApart number ended = (IsAmong number ended → ⊥) × NoTwice ended

-- what a pass knows between turns: its own marks in what it saw are those that it kept, none of them is of a later
-- chapter, `held` begins `seen`, and its number and those that were joined into it all differ
module _ {T B M S : Type 0} (K : Meaning T B M S) where
  pub record Rests (number : ℕ) (seen held : History B M) (mine : List (ℕ × M)) (ended : List (Ended M)) : Type 0 where
    pub own : HasMarks K number mine seen
    pub later : (c : ℕ) → seen.chapter < c → in_chapter c mine ≡ []
    pub held_begins : IsBegun K held seen
    pub apart : AreApart number ended

module _ {T B M S : Type 0} (K : Meaning T B M S) (value : T) (marks_of : ℕ → List (ℕ × M)) (all : List (Knows B M S)) where
  -- a number that ended: its marks are kept, nothing else is, and its view is used up
  pub record IsEnded (e : Ended M) : Type 0 where
    pub mine : e.mine ≡ marks_of e.number
    pub share : K.share value e.number ≡ K.nothing
    pub made : e.number < length all
    pub used_up : (k : Knows B M S) → get_elem? all e.number ≡ some k → k.parts ≡ 0

  abbrev pub AllEnded : List (Ended M) → Type 0
  AllEnded [] = Unit {0}
  AllEnded (e ∷ es) = IsEnded e × AllEnded es

  -- what the i-th view knows, where it is not used up
  pub record Knowing (i : ℕ) (k : Knows B M S) : Type 0 where
    pub seen : IsBegun K k.seen (K.history value)
    pub held : IsBegun K k.held k.seen
    pub met : IsBegun K k.met.0 k.seen × IsBegun K k.met.1 k.seen
    pub number : MatchBool k.named (k.number ≡ i) (k.number < i)
    pub mine : k.mine ≡ marks_of i
    pub share : K.share value i ≡ k.share
    pub own : HasMarks K i k.mine k.seen
    pub later : (c : ℕ) → k.seen.chapter < c → in_chapter c k.mine ≡ []
    pub others : (j : ℕ) → IsPrefix (own_in K j k.seen) (in_chapter k.seen.chapter (marks_of j))
    pub ended : AllEnded k.ended
    pub once : NoTwice k.ended
    pub older : (n : ℕ) → IsAmong n k.older → n < i

  pub record Known : Type 0 where
    pub each : (i : ℕ) (k : Knows B M S) → get_elem? all i ≡ some k → 0 < k.parts → Knowing i k
    -- of any two histories that were seen, one begins the other
    pub one_history : (i j : ℕ) (a b : Knows B M S) → get_elem? all i ≡ some a → get_elem? all j ≡ some b → 0 < a.parts → 0 < b.parts → IsBegun K a.seen b.seen ⊎ IsBegun K b.seen a.seen
    -- a number was joined into one view at most
    pub joined_once : (i j : ℕ) (a b : Knows B M S) (n : ℕ) → get_elem? all i ≡ some a → get_elem? all j ≡ some b → 0 < a.parts → 0 < b.parts → IsAmong n a.ended → IsAmong n b.ended → i ≡ j
    -- each number's marks in the present chapter are those kept for it, and none is of a later chapter
    pub whole : (i : ℕ) → HasMarks K i (marks_of i) (K.history value)
    pub no_later : (i c : ℕ) → (K.history value).chapter < c → in_chapter c (marks_of i) ≡ []
    -- a number that was not made has no marks, and nothing is kept for it
    pub unmade : (i : ℕ) → length all ≤ i → (marks_of i ≡ []) × (K.share value i ≡ K.nothing)
    -- a number that was made has a view, or was joined into one
    pub made : (i : ℕ) → i < length all → (j : ℕ) × (k : Knows B M S) × (get_elem? all j ≡ some k) × (0 < k.parts) × Stands i j k
