-- The rule of a turn cell: three words, `next`, `serving` and `front`, one slot with the value, and a view for each pass.
use Rattle.std.specs.Prelude.{◌≡◌, ◌⊎◌, ℕ, ◌+◌, ◌<◌, ◌≤◌, Bool, true, false, List, [], length, map, slice_index, sum_by, Option, None, Some, if◌then◌else◌}
use mathlib.Core.Option.{some}
use lib.ListN.{get_elem?}
use Rattle.atomic_table.specs.Table.{State}
use Rattle.history_spec.specs.Chapter.{tagged}
use Rattle.turn_cell.specs.Meaning.{Meaning}
use Rattle.turn_cell.specs.Known.{Known, own_in, turns_of_ended}
use Rattle.turn_cell.specs.declared.view.Stage.{Stage}
use Rattle.turn_cell.specs.declared.view.Stage.TheVariants.{Idle, Waiting, Holding, Published}
use Rattle.turn_cell.specs.declared.view.Knows.{Knows}
use Rattle.turn_cell.specs.declared.view.View.{View}

-- a ticket that is drawn and not given up
abbrev pub IsDrawn : ℕ → ℕ → ℕ → Type 0
IsDrawn serving next t = (serving ≤ t) × (t < next) × (t < 4611686018427387904)

-- the ticket of a stage
abbrev pub ticket : {T : Type 0} → Stage T → Option ℕ
ticket Idle = None
ticket (Waiting t) = Some t
ticket (Holding t value) = Some t
ticket (Published t value) = Some t

abbrev pub has_turn : {T : Type 0} → Stage T → Bool
has_turn Idle = false
has_turn (Waiting t) = false
has_turn (Holding t value) = true
has_turn (Published t value) = true

module _ {T B M S : Type 0} where
  abbrev pub parts_of : View T B M S → ℕ
  parts_of v = v.knows.parts

  abbrev pub spent_parts : View T B M S → ℕ
  spent_parts v = if v.spent then v.knows.parts else 0

  -- how many turns a view and those that were joined into it had
  abbrev pub turns_in : View T B M S → ℕ
  turns_in v = v.turns + turns_of_ended v.knows.ended

  -- a view knows the first ticket, and one that is used up counts no turns
  pub record Counts (start : ℕ) (v : View T B M S) : Type 0 where
    pub first : 0 < v.knows.parts → v.first ≡ start
    pub gone : v.knows.parts ≡ 0 → turns_in v ≡ 0

  abbrev pub knowledge : List (View T B M S) → List (Knows B M S)
  knowledge views = map (λ v. v.knows) views

module _ {T B M S : Type 0} (K : Meaning T B M S) where
  -- what a stage says of the words and of the value that counts. Between the publishing of a new chapter and the
  -- passing on, its number may be one more than the ticket served
  abbrev pub FitsStage : ℕ → ℕ → T → Stage T → Type 0
  FitsStage serving next value Idle = Unit {0}
  FitsStage serving next value (Waiting t) = IsDrawn serving next t
  FitsStage serving next value (Holding t found) = (t ≡ serving) × IsDrawn serving next t × (found ≡ value) × ((K.history value).chapter ≤ t)
  FitsStage serving next value (Published t left) = (t ≡ serving) × IsDrawn serving next t × (left ≡ value) × ((K.history value).chapter ≤ t + 1)

  pub record Fits (serving next : ℕ) (value : T) (v : View T B M S) : Type 0 where
    pub stage : FitsStage serving next value v.stage
    pub used_up : v.knows.parts ≡ 0 → v.stage ≡ Idle
    pub spent : v.spent ≡ true → 4611686018427387904 ≤ next

  -- where the value is: at home, or out with the one view that has the turn
  abbrev pub Placed : State (Option T) (View T B M S) → T → Type 0
  Placed s value =
      ((get_elem? s.homes 0 ≡ some (some (Some value))) × ((K.history value).chapter ≤ slice_index s.words 1) × ((i : ℕ) (v : View T B M S) → get_elem? s.views i ≡ some v → has_turn v.stage ≡ false))
      ⊎ ((i : ℕ) × (v : View T B M S) × (get_elem? s.views i ≡ some v) × (has_turn v.stage ≡ true))

  -- the rule's first half: words, slot and stages
  pub record Door (s : State (Option T) (View T B M S)) (value : T) : Type 0 where
    pub words : length s.words ≡ 3
    pub homes : length s.homes ≡ 1
    pub order : slice_index s.words 1 ≤ slice_index s.words 0
    pub served : slice_index s.words 1 ≤ 4611686018427387904
    pub front : slice_index s.words 2 ≡ length (K.history value).marks
    pub all_parts : sum_by parts_of s.views ≡ 4611686018427387904
    pub bounded : slice_index s.words 0 ≤ 4611686018427387904 + sum_by spent_parts s.views
    pub each : (i : ℕ) (v : View T B M S) → get_elem? s.views i ≡ some v → Fits (slice_index s.words 1) (slice_index s.words 0) value v
    pub apart : (i j : ℕ) (v w : View T B M S) (t : ℕ) → get_elem? s.views i ≡ some v → get_elem? s.views j ≡ some w → ticket v.stage ≡ Some t → ticket w.stage ≡ Some t → i ≡ j
    pub placed : Placed s value
    -- tickets are drawn from the first one on, each for a turn
    pub first : ℕ
    pub drawn : (t : ℕ) → t ≤ slice_index s.words 0 → t ≤ 4611686018427387904 → t ≤ first + sum_by turns_in s.views
    pub counts : (i : ℕ) (v : View T B M S) → get_elem? s.views i ≡ some v → Counts first v

  pub record IsRuled (s : State (Option T) (View T B M S)) : Type 0 where
    -- the value at home, or else as its turn found it or has published it
    pub value : T
    -- all marks of each number, with the numbers of their chapters
    pub marks_of : ℕ → List (ℕ × M)
    pub door : Door s value
    pub known : Known K value marks_of (knowledge s.views)

  -- the view of the first pass
  abbrev pub newcomer : T → ℕ → View T B M S
  newcomer value first = let h = K.history value in record {
    stage = Idle;
    first = first;
    turns = 0;
    spent = false;
    knows = record {
      named = true;
      number = 0;
      parts = 4611686018427387904;
      seen = h;
      met = (h, h);
      mine = tagged h.chapter (own_in K 0 h);
      held = h;
      share = K.share value 0;
      ended = [];
      older = [];
    };
  }
