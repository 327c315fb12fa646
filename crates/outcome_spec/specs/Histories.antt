-- Histories that a request reads: the row had seen a beginning of it, and has seen it when it comes back.
use Rattle.std.specs.Prelude.{ℕ, List, length}
use Rattle.history_spec.specs.declared.history.History.{History}
use Rattle.history_spec.specs.Begins.{Begins}
use Rattle.virt_types.specs.Below.types_base.declared.caller.Front.{Front}
use Rattle.outcome_spec.specs.Rows.{Known}

-- how far a history has come
abbrev pub front_of : {B M : Type 0} → History B M → Front
front_of h = record { chapter = h.chapter; marks = length h.marks }

-- the history lies between what the pass had seen before and what it has seen after
pub record IsRead {B M : Type 0} (rising : B → List M → ℕ) (before after : Known B M) (h : History B M) : Type 0 where
  pub from : Begins rising before.seen h
  pub to : Begins rising h after.seen
