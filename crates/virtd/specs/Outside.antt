-- What the outside handed out to the program, and what it got back.
use Rattle.std.specs.Prelude.{◌≡◌, ◌⊎◌, ℕ, List, Option, None, Some, Result, Ok, Err}
use Rattle.daemon.specs.declared.closing.Closed.{Closed}
use Rattle.def_keeper.specs.Opened.{IsSureAt}
use Rattle.daemon.specs.Below.driver_close.declared.books.Books.{Books}
use Rattle.files_disk.specs.Telling.{Told}
use Rattle.outside_spec.specs.Faults.{Rose}
use Rattle.virt_types.specs.Below.types_base.declared.memory.Fault.{Fault}
use Rattle.virt_types.specs.Below.types_base.declared.memory.Fault.TheVariants as fault
use Rattle.virtd.specs.Handed.{Handed, one_more}

-- connections, the files of directories with their paths, and the histories of daemons that were closed
pub record Outside (C F : Type 0) : Type 0 where
  pub made : Handed C
  pub back : Handed C
  pub opened : Handed (List ℕ × F)
  pub closed : Handed F
  pub kept : Handed Books
  -- how often the files of a directory could not be had
  pub faults : ℕ

-- a connection was made
abbrev pub with_made : {C F : Type 0} → C → Outside C F → Outside C F
with_made connection w = record w { made = one_more w.made connection }

-- a connection came back
abbrev pub with_back : {C F : Type 0} → C → Outside C F → Outside C F
with_back connection w = record w { back = one_more w.back connection }

-- the files of the directory with this path were handed out
abbrev pub with_opened : {C F : Type 0} → List ℕ → F → Outside C F → Outside C F
with_opened path files w = record w { opened = one_more w.opened (path, files) }

-- files came back
abbrev pub with_closed : {C F : Type 0} → F → Outside C F → Outside C F
with_closed files w = record w { closed = one_more w.closed files }

-- histories came back
abbrev pub with_kept : {C F : Type 0} → Books → Outside C F → Outside C F
with_kept books w = record w { kept = one_more w.kept books }

-- the histories of a daemon came back, where it was closed
abbrev pub with_books : {C F D : Type 0} → Option (Closed D) → Outside C F → Outside C F
with_books None w = w
with_books (Some closed) w = with_kept closed.books w

-- files came back, if there are any
abbrev pub with_files : {C F : Type 0} → Option F → Outside C F → Outside C F
with_files None w = w
with_files (Some files) w = with_closed files w

-- a fault was counted, and nothing else
pub record IsFaulty {C F : Type 0} (was is : Outside C F) : Type 0 where
  pub same : is ≡ record was { faults = is.faults }
  pub rose : Rose was.faults is.faults

-- the files of the directory with this path were given, each definition's file synced where it is so said; or why not
abbrev pub Gives : {C F : Type 0} → (F → Told) → Type 0 → List ℕ → Outside C F → Outside C F → Result F Fault → Type 0
Gives told sound path was is (Ok files) = (is ≡ with_opened path files was) × (sound → IsSureAt (told files))
Gives told sound path was is (Err fault.Failed) = IsFaulty was is
Gives told sound path was is (Err fault.NoMemory) = is ≡ was

-- there was no memory before anything was made
abbrev pub IsStarved : {C F : Type 0} → Outside C F → Outside C F → ℕ → Type 0
IsStarved was is code = (code ≡ 12) × (is ≡ was)

-- the files of a directory could not be had, and nothing was made
abbrev pub HasNoFiles : {C F : Type 0} → Outside C F → Outside C F → ℕ → Type 0
HasNoFiles was is code = ((code ≡ 4) × IsFaulty was is) ⊎ IsStarved was is code
