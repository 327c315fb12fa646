-- What follows for the driver of what a desk was asked.
use Rattle.std.specs.Prelude.{◌≡◌, ◌≤◌, ℕ, List, Contains, Some, slice_get, length, true}
use Rattle.domain_spec.specs.Types.{Answer, Ask}
use Rattle.files_disk.specs.Telling.{Told}
use Rattle.row_desk.specs.Views.{StorePass}
use Rattle.row_desk.specs.Served.{HasServed}
use Rattle.row_desk.specs.Stored.{IsStored, is_stored}
use Rattle.def_keeper.specs.declared.mark.StoreMark.{StoreMark}

-- a mark of the pass, made since it was this one, gives the answer
pub record HasMark (first now : StorePass) (asked : Ask × Answer) : Type 0 where
  pub at : ℕ
  pub mark : ℕ × StoreMark
  pub new : length first.mine ≤ at
  pub stands : slice_get now.mine at ≡ Some mark
  pub tells : IsStored first.number now.seen asked mark

-- whatever the store was asked, and answered, has its mark
abbrev pub StoreAsksHaveMarks : {F : Type 0} → (F → Told) → Type 0
StoreAsksHaveMarks told = (report : List (Ask × Answer)) (first now : StorePass) (asked : Ask × Answer) → HasServed told report first now → Contains report asked → is_stored asked.0 ≡ true
    → HasMark first now asked
