-- What a turn cell sees in a counter: one chapter, whose marks are the amounts.
use Rattle.std.specs.Prelude.{◌≡◌, ℕ, true, List, [], ◌∷◌, Some}
use Rattle.std.proofs.Common.{le_refl}
use Rattle.history_spec.specs.declared.stamp.Stamp.{Stamp}
use Rattle.turn_cell.specs.Meaning.{Meaning, NoMarkLowers, NewBaseKeeps}
use Rattle.turn_cell.specs.Passes.{Passed}
use Rattle.turn_cell.specs.Turning.{Went}
use Rattle.turn_examples.specs.declared.counter.Amount.{Amount}
use Rattle.turn_examples.specs.Counting.{total_of}
use Rattle.turn_examples.specs.declared.turns.NotAdded.{NotAdded}
use Rattle.turn_examples.specs.declared.turns.NotAdded.TheVariants.{Spent, Fault}

abbrev pub meaning : Meaning (List Amount) (Unit {0}) Amount (Unit {0})
meaning = record {
  history = λ amounts. record { chapter = 0; base = tt; marks = amounts };
  next_base = λ amounts. tt;
  rising = λ base amounts. 0;
  whose = λ m. Some m.by.number;
  share = λ amounts number. tt;
  nothing = tt;
  any_base = tt;
}

pub no_mark_lowers : NoMarkLowers meaning
no_mark_lowers b xs ys = le_refl 0

pub new_base_keeps : NewBaseKeeps meaning
new_base_keeps t = le_refl 0

-- a pass, after a turn in which it added an amount
pub record HasAdded (amount : ℕ) (before after : Passed (Unit {0}) Amount (Unit {0})) : Type 0 where
  pub by : Stamp
  pub number : by.number ≡ before.number
  pub went : Went meaning 1 ((0, record { by = by; amount = amount }) ∷ []) before after

-- a pass, after a turn without a mark in which it read this total
pub record HasLooked (total : ℕ) (before after : Passed (Unit {0}) Amount (Unit {0})) : Type 0 where
  pub went : Went meaning 1 [] before after
  pub total_is : total ≡ total_of after.seen.marks

-- a pass that added nothing: it is spent, or had a turn without a mark
abbrev pub KeptBack : NotAdded → Passed (Unit {0}) Amount (Unit {0}) → Passed (Unit {0}) Amount (Unit {0}) → Type 0
KeptBack Spent before after = after ≡ record before { spent = true }
KeptBack (Fault fault) before after = Went meaning 1 [] before after
