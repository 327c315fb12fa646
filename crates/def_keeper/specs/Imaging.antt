-- The marks that writing and reading an image leave.
use Rattle.std.specs.Prelude.{◌≡◌, List, [], ◌∷◌, ℕ, Result, Ok, Err}
use Rattle.virt_types.specs.Below.types_base.declared.memory.Failed.{Failed}
use Rattle.virt_types.specs.Below.types_base.declared.memory.Fault.{Fault}
use Rattle.virt_types.specs.Below.types_base.declared.memory.Fault.TheVariants as fault
use Rattle.virt_types.specs.Below.types_base.declared.memory.OrNoMemory.{OrNoMemory}
use Rattle.virt_types.specs.Below.types_base.declared.memory.OrNoMemory.TheVariants as or
use Rattle.store_spec.specs.declared.image.Image.{Image}
use Rattle.store_spec.specs.declared.image.ImageFault.{ImageFault}
use Rattle.def_keeper.specs.declared.mark.StoreAction.TheVariants as action
use Rattle.def_keeper.specs.Chapters.{by, with_marks}
use Rattle.def_keeper.specs.Marks.{StoreHistory}

-- that the store failed
abbrev pub failed : Failed
failed = record {}

-- the one mark of an image that was to be written, with the answer; without memory none
abbrev pub HasWritten : ℕ → List ℕ → Image → StoreHistory → StoreHistory → Result (Unit {0}) Fault → Type 0
HasWritten number name i old new (Ok done) = new ≡ with_marks (by number (action.ImageWritten name i (Ok tt)) ∷ []) old
HasWritten number name i old new (Err fault.Failed) = new ≡ with_marks (by number (action.ImageWritten name i (Err failed)) ∷ []) old
HasWritten number name i old new (Err fault.NoMemory) = new ≡ old

-- and of one that was to be read
abbrev pub HasRead : ℕ → List ℕ → StoreHistory → StoreHistory → Result Image (OrNoMemory ImageFault) → Type 0
HasRead number name old new (Ok i) = new ≡ with_marks (by number (action.ImageRead name (Ok i)) ∷ []) old
HasRead number name old new (Err (or.Fault f)) = new ≡ with_marks (by number (action.ImageRead name (Err f)) ∷ []) old
HasRead number name old new (Err or.NoMemory) = new ≡ old
