-- What a pass knows of a message that it said, and of a flush.
use Rattle.std.specs.Prelude.{◌≡◌, ◌++◌, Bool, true, false, List, Result, Ok, Err}
use Rattle.history_spec.specs.Chapter.{tagged}
use Rattle.turn_cell.specs.Turning.{Went}
use Rattle.sink_turns.specs.declared.mark.Deed.{Deed}
use Rattle.sink_turns.specs.declared.mark.Mark.{Mark}
use Rattle.sink_turns.specs.declared.message.Message.{Message}
use Rattle.sink_turns.specs.declared.turns.NotSaid.{NotSaid}
use Rattle.sink_turns.specs.declared.turns.NotSaid.TheVariants.{Spent, Fault}
use Rattle.sink_turns.specs.Keeping.{OutPass, meaning}
use Rattle.sink_turns.specs.Marks.{marks_by}
use Rattle.sink_turns.specs.Saying.{FlushedSo, SaidSo}
use Rattle.sink_turns.specs.Text.{Text, text}

-- a pass, after a turn in which it did so: others may have had turns between its last one and this
pub record HasDone (So : Text → List Deed → Type 0) (before after : OutPass) : Type 0 where
  pub fresh : before.spent ≡ false
  pub others : List Mark
  pub deeds : List Deed
  pub went : Went meaning 1 (tagged 0 (marks_by before.number deeds)) before after
  pub seen : after.seen.marks ≡ (before.seen.marks ++ others) ++ marks_by before.number deeds
  pub so : So (text (before.seen.marks ++ others)) deeds

-- a message was said so; or no ticket was left for it
abbrev pub IsSaid : Message → Bool → Result (Unit {0}) NotSaid → OutPass → OutPass → Type 0
IsSaid message more (Ok u) before after = HasDone (λ t deeds. SaidSo t message more (Ok u) deeds) before after
IsSaid message more (Err Spent) before after = after ≡ record before { spent = true }
IsSaid message more (Err (Fault why)) before after = HasDone (λ t deeds. SaidSo t message more (Err why) deeds) before after

-- all that waited was put so; or no ticket was left for it
abbrev pub IsFlushed : Result (Unit {0}) NotSaid → OutPass → OutPass → Type 0
IsFlushed (Ok u) before after = HasDone (λ t deeds. FlushedSo t (Ok u) deeds) before after
IsFlushed (Err Spent) before after = after ≡ record before { spent = true }
IsFlushed (Err (Fault why)) before after = HasDone (λ t deeds. FlushedSo t (Err why) deeds) before after
