-- What the program does for its words, and what its status means.
use Rattle.std.specs.Prelude.{◌≡◌, ◌⊎◌, ℕ, List, Option, None, Some, Ok, Err}
use Rattle.daemon.specs.declared.closing.Closed.{Closed}
use Rattle.daemon_settings.specs.Settings.{HasLoaded}
use Rattle.daemon_settings.specs.declared.settings.Settings.{Settings}
use Rattle.daemon_settings.specs.declared.settings.SettingsFault.{SettingsFault}
use Rattle.daemon_settings.specs.declared.settings.SettingsFault.TheVariants as settings
use Rattle.daemon.specs.Below.driver_close.OfOpening.{HasCells, IsUnopened}
use Rattle.driver_store.specs.declared.fault.DriverFault.{DriverFault}
use Rattle.files_disk.specs.Memory.{MemoryFiles, no_files}
use Rattle.files_disk.specs.Telling.{Told}
use Rattle.daemon.specs.Below.held_tasks.OfRows.{DriverRow}
use Rattle.outside_spec.specs.Faults.{Rose}
use Rattle.session_spec.specs.declared.end.End.{End}
use Rattle.virt_types.specs.declared.ask.GuestEvent.{GuestEvent}
use Rattle.virt_types.specs.Below.types_base.declared.memory.OrNoMemory.{OrNoMemory}
use Rattle.virt_types.specs.Below.types_base.declared.memory.OrNoMemory.TheVariants as or
use Rattle.virt_types.specs.declared.request.Request.{Request}
use Rattle.virt_types.specs.declared.status.Status.{Status}
use Rattle.virtd.specs.Demo.{demo_requests}
use Rattle.virtd.specs.Outside.{HasNoFiles, IsStarved, Outside, with_back, with_books, with_closed, with_files, with_made, with_opened}
use Rattle.virtd.specs.Serving.{HasRun}
use Rattle.virtd.specs.Status.{fault_status, settings_status, status}
use Rattle.virtd.specs.declared.connection.Connection.{Connection}
use Rattle.virtd.specs.declared.first.First.{First}
use Rattle.virtd.specs.declared.first.First.TheVariants.{Make, Start}

-- the files that are left of a daemon, where it was closed
abbrev pub files_of : {F : Type 0} → Option (Closed F) → Option F
files_of None = None
files_of (Some closed) = Some closed.files

module _ {F C D : Type 0} (told : F → Told) (sound : Type 0) (store_faults : F → ℕ) where
  -- no daemon is opened on the files: no connection is made, so nothing is taken, and the files come back
  pub record IsNotServed (files : F) (was is : Outside C D) (code : ℕ) (back : Option F) : Type 0 where
    pub fault : OrNoMemory DriverFault
    pub given : F
    pub unopened : IsUnopened told store_faults sound files fault given
    pub code_is : code ≡ fault_status fault
    pub outside : is ≡ was
    pub back_is : back ≡ Some given

module _ {F G E S K R D : Type 0} (told : F → Told) (sound : Type 0) (store_faults : F → ℕ) (maker : G → ℕ)
    (ends faults : E → ℕ) (unheard : E → Option (List GuestEvent))
    (left : S → Option (List ℕ)) (source_faults : S → ℕ) (held : K → Option (List ℕ)) (sink_faults : K → ℕ)
    (drawn : R → Option (List ℕ)) where
  -- exactly one connection is made, served by a daemon with this row, and given back; and what is left of the daemon comes
  -- back where it was closed
  pub record Connects (first : First) (found : List Request) (row : DriverRow G) (was is : Outside (Connection S K R) D)
      (code : ℕ) (back : Option F) : Type 0 where
    pub connection : Connection S K R
    pub given : Connection S K R
    pub end : End
    pub closed : Option (Closed F)
    pub run : HasRun told sound store_faults maker ends faults unheard left source_faults held sink_faults drawn
        first found row connection given end closed
    pub code_is : code ≡ status end
    pub outside : is ≡ with_books closed (with_back given (with_made connection was))
    pub back_is : back ≡ files_of closed

  -- a daemon is opened on the files, and serves one connection
  pub record IsServed (first : First) (files : F) (was is : Outside (Connection S K R) D) (code : ℕ) (back : Option F) : Type 0 where
    pub row : DriverRow G
    pub found : List Request
    pub reports : List (Option Status)
    pub cells : HasCells told files row found reports
    pub connects : Connects first found row was is code back

  -- what becomes of the files of a store, and of standard input and output
  abbrev pub ServesFiles : First → F → Outside (Connection S K R) D → Outside (Connection S K R) D → ℕ → Option F → Type 0
  ServesFiles first files was is code back =
      IsNotServed told sound store_faults files was is code back ⊎ IsServed first files was is code back

-- files in memory report all that is done to them, and count their faults
abbrev pub memory_told : MemoryFiles → Told
memory_told files = Some files.operations

abbrev pub memory_faults : MemoryFiles → ℕ
memory_faults files = files.faults

module _ {G E S K R D : Type 0} (maker : G → ℕ) (ends faults : E → ℕ) (unheard : E → Option (List GuestEvent))
    (left : S → Option (List ℕ)) (source_faults : S → ℕ) (held : K → Option (List ℕ)) (sink_faults : K → ℕ)
    (drawn : R → Option (List ℕ)) where
  -- a daemon over files in memory, of which there are none yet, which defines its one domain first
  abbrev pub ServesDemo : Outside (Connection S K R) D → Outside (Connection S K R) D → ℕ → Type 0
  ServesDemo was is code = IsStarved was is code ⊎ ((back : Option MemoryFiles)
      × ServesFiles memory_told (Unit {0}) memory_faults maker ends faults unheard left source_faults held sink_faults drawn
      (Make demo_requests) no_files was is code back)

module _ {F G E S K R : Type 0} (told : F → Told) (sound : Type 0) (store_faults : F → ℕ) (maker : G → ℕ)
    (ends faults : E → ℕ) (unheard : E → Option (List GuestEvent))
    (left : S → Option (List ℕ)) (source_faults : S → ℕ) (held : K → Option (List ℕ)) (sink_faults : K → ℕ)
    (drawn : R → Option (List ℕ)) where
  -- the configuration in these files isn't known: nothing is made or served, and they come back as they were
  pub record IsUnconfigured (files : F) (was is : Outside (Connection S K R) F) (code : ℕ) : Type 0 where
    pub fault : OrNoMemory SettingsFault
    pub given : F
    pub loaded : HasLoaded (told files) (Err fault)
    pub same : told given ≡ told files
    pub device : fault ≡ or.Fault settings.Device → Rose (store_faults files) (store_faults given)
    pub code_is : code ≡ settings_status fault
    pub outside : is ≡ with_closed given was

  -- the configuration is known; a daemon is run over the files, which first starts what its store says; and they are given
  -- back where it was closed
  pub record IsRunOver (files : F) (was is : Outside (Connection S K R) F) (code : ℕ) : Type 0 where
    pub settings : Settings
    pub configured : F
    pub loaded : HasLoaded (told files) (Ok settings)
    pub same : told configured ≡ told files
    pub then : Outside (Connection S K R) F
    pub back : Option F
    pub serves : ServesFiles told sound store_faults maker ends faults unheard left source_faults held sink_faults drawn
        Start configured was then code back
    pub given_back : is ≡ with_files back then

  -- what becomes of the files of a directory
  abbrev pub ServesOpened : F → Outside (Connection S K R) F → Outside (Connection S K R) F → ℕ → Type 0
  ServesOpened files was is code = IsUnconfigured files was is code ⊎ IsRunOver files was is code

  -- a daemon over exactly this directory
  abbrev pub ServesDirectory : List ℕ → Outside (Connection S K R) F → Outside (Connection S K R) F → ℕ → Type 0
  ServesDirectory path was is code = HasNoFiles was is code ⊎ ((files : F) × ServesOpened files (with_opened path files was) is code)
