-- What a turn of the keeper does, in the keeper's own words: a change was made, an image was written, or was read.
use Rattle.std.specs.Prelude.{◌≡◌, ◌≤◌, ℕ, List, IfOk, OnOk, OnErr, IsErrOf, Result, length}
use Rattle.outside_spec.specs.Faults.{Rose}
use Rattle.virt_types.specs.Below.types_base.declared.caller.Front.{Front}
use Rattle.virt_types.specs.Below.types_base.declared.memory.Fault.{Fault}
use Rattle.virt_types.specs.Below.types_base.declared.memory.Fault.TheVariants as fault
use Rattle.virt_types.specs.Below.types_base.declared.memory.OrNoMemory.{OrNoMemory}
use Rattle.files_disk.specs.Telling.{Told}
use Rattle.def_keeper.specs.Below.image_store.Storing.{ReadsImage, WritesImage}
use Rattle.def_keeper.specs.Below.image_store.Storing.{HasDevice as HasImageDevice}
use Rattle.store_spec.specs.declared.change.Change.{Change}
use Rattle.store_spec.specs.declared.image.Image.{Image}
use Rattle.store_spec.specs.declared.image.ImageFault.{ImageFault}
use Rattle.store_spec.specs.declared.kind.BookKind.{BookKind}
use Rattle.store_spec.specs.Changes.{changed}
use Rattle.def_keeper.specs.declared.mark.StoreFault.{StoreFault}
use Rattle.def_keeper.specs.Calls.{HasDevice, HasLeft, IsDoubtAfter, IsQuiet, Refuses}
use Rattle.def_keeper.specs.Chapters.{moment_of, open_chapter}
use Rattle.def_keeper.specs.Imaging.{HasRead, HasWritten}
use Rattle.def_keeper.specs.Keeper.{Keeping}
use Rattle.def_keeper.specs.Marks.{StoreHistory}
use Rattle.def_keeper.specs.Below.def_map.Map.{found}

-- how far a history has come
abbrev pub front_of : StoreHistory → Front
front_of h = record { chapter = h.chapter; marks = length h.marks }

module _ {F : Type 0} (told : F → Told) (faults : F → ℕ) where
  -- the chapter in which a change leaves its marks
  abbrev pub opened : Keeping F → StoreHistory
  opened k = open_chapter (told k.files) k.map k.doubt k.history

  -- a change was asked for by this number, and answered so
  pub record IsChanged (number : ℕ) (c : Change) (old new : Keeping F) (r : Result Front (OrNoMemory StoreFault)) : Type 0 where
    pub front : IfOk r (λ front. front ≡ front_of new.history)
    pub ok : OnOk r ((k : BookKind) (u : List ℕ) → found new.map k u ≡ changed c (found old.map) k u)
    pub err : OnErr r ((k : BookKind) (u : List ℕ) → found new.map k u ≡ found old.map k u)
    pub doubt : IsDoubtAfter c old.doubt new.doubt r
    pub names : Refuses c (found old.map) r
    pub quiet : IsQuiet old.files new.files r
    pub marks : HasLeft number c old.doubt (found old.map) (moment_of (told new.files)) (opened old) new.history r
    pub device : HasDevice (faults old.files) (faults new.files) r
    pub counts : faults old.files ≤ faults new.files

  -- an image was to be written by this number, and answered so
  pub record IsWritten (number : ℕ) (name : List ℕ) (i : Image) (old new : Keeping F) (r : Result (Unit {0}) Fault) : Type 0 where
    pub put : WritesImage name i (told old.files) (told new.files) r
    pub marks : HasWritten number name i old.history new.history r
    pub kept : new ≡ record old { files = new.files; history = new.history }
    pub device : IsErrOf r fault.Failed → Rose (faults old.files) (faults new.files)
    pub counts : faults old.files ≤ faults new.files

  -- an image was to be read by this number, and answered so
  pub record IsRead (number : ℕ) (name : List ℕ) (old new : Keeping F) (r : Result Image (OrNoMemory ImageFault)) : Type 0 where
    pub image : ReadsImage (told old.files) name r
    pub quiet : told new.files ≡ told old.files
    pub marks : HasRead number name old.history new.history r
    pub kept : new ≡ record old { files = new.files; history = new.history }
    pub device : HasImageDevice (faults old.files) (faults new.files) r
    pub counts : faults old.files ≤ faults new.files
