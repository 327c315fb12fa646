-- How what a desk was asked is tied to what it was handed.
use Rattle.std.specs.Prelude.{◌≡◌, ◌≤◌, ℕ, List, Contains, true}
use Rattle.outside_spec.specs.Faults.{Rose}
use Rattle.domain_spec.specs.Types.{Answer, Ask}
use Rattle.domain_spec.specs.Types.ask
use Rattle.domain_spec.specs.Types.answer
use Rattle.virt_types.specs.Below.types_base.declared.domain_def.DomainDef.{DomainDef}
use Rattle.files_disk.specs.Telling.{Told}
use Rattle.turn_cell.specs.Turning.{Went}
use Rattle.def_keeper.specs.declared.mark.StoreMark.{StoreMark}
use Rattle.def_keeper.specs.Turns.{meaning}
use Rattle.row_desk.specs.Views.{StorePass}
use Rattle.row_desk.specs.Stored.{AreStored, answers_in, stored_in}

-- so many turns of a pass, with these marks of its own and no others; then there may have been no ticket left
pub record Goes {F : Type 0} (told : F → Told) (turns : ℕ) (more : List (ℕ × StoreMark)) (before after : StorePass) : Type 0 where
  pub went : Went (meaning told) turns more (record before { spent = after.spent }) after
  pub spent : before.spent ≡ true → after.spent ≡ true

-- what the store was asked since the desk was handed its pass is, in order, what the marks say that the pass left since
pub record HasServed {F : Type 0} (told : F → Told) (report : List (Ask × Answer)) (first now : StorePass) : Type 0 where
  pub turns : ℕ
  pub more : List (ℕ × StoreMark)
  pub goes : Goes told turns more first now
  pub stored : AreStored first.number now.seen (stored_in report) (answers_in more)

-- a guest that could not be made was counted since, and no count fell
pub record HasMade (report : List (Ask × Answer)) (before now : ℕ) : Type 0 where
  pub counts : before ≤ now
  pub lost : (d : DomainDef) (boot : ℕ) → Contains report (ask.Make d boot, answer.Lost) → Rose before now
