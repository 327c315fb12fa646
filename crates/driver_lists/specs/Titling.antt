-- What a pass of the store knows once it has read the titles.
use Rattle.std.specs.Prelude.{◌≡◌, List, [], false, Result, IfOk}
use Rattle.def_keeper.specs.Turns.{meaning}
use Rattle.def_keeper.specs.declared.mark.StoreBase.{StoreBase}
use Rattle.def_keeper.specs.declared.mark.StoreMark.{StoreMark}
use Rattle.files_disk.specs.Telling.{Told}
use Rattle.driver_cells.specs.OfOutcomes.{AreTitles, front_of, map_of}
use Rattle.turn_cell.specs.Passes.{Passed}
use Rattle.turn_cell.specs.Turning.{Went}
use Rattle.virt_types.specs.Below.types_base.declared.caller.Front.{Front}
use Rattle.virt_types.specs.Below.types_base.declared.memory.NoMemory.{NoMemory}
use Rattle.virt_types.specs.declared.value.TitleRow.{TitleRow}

-- a pass that had tickets left took a turn at the store and left no mark; the titles are those of the history that it has seen
-- by then, which comes this far
pub record HasReadTitles {F : Type 0} (told : F → Told) (rows : Result (List TitleRow) NoMemory) (front : Front) (before after : Passed StoreBase StoreMark (Unit {0})) : Type 0 where
  pub fresh : before.spent ≡ false
  pub went : Went (meaning told) 1 [] before after
  pub titles : IfOk rows (AreTitles (map_of after.seen))
  pub front_is : front ≡ front_of after.seen
