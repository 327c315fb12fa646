-- A directory of definitions that was opened and read.
use Rattle.std.specs.Prelude.{◌≡◌, ◌≤◌, All, List, None, length}
use Rattle.virt_types.specs.Limits.{most_domains}
use Rattle.files_disk.specs.Telling.{Told}
use Rattle.store_spec.specs.declared.change.Change.{Change}
use Rattle.store_spec.specs.Changes.{Definitions}
use Rattle.def_keeper.specs.declared.outcome.Found.{Found}
use Rattle.def_keeper.specs.Chapters.{first_chapter}
use Rattle.def_keeper.specs.Keeper.{Keeping}
use Rattle.def_keeper.specs.Opened.{IsOpened}
use Rattle.def_keeper.specs.Tidying.{Tidies}
use Rattle.def_map.specs.Map.{found}
use Rattle.found_domains.specs.declared.found.FoundDomain.{FoundDomain}
use Rattle.found_domains.specs.declared.found.FoundDomains.{FoundDomains}
use Rattle.found_domains.specs.Found.{AreDistinct, IsByName, IsKeptOf, again_in, domains_in, fault_in, name_of}
use Rattle.driver_store.specs.Again.{HasPut}

-- a keeper that was just opened
pub record IsBegun {F : Type 0} (told : F → Told) (k : Keeping F) : Type 0 where
  pub history : k.history ≡ first_chapter (told k.files) k.map
  pub doubt : k.doubt ≡ None

-- a directory was opened and tidied, and nothing in it is bad: it holds these domains, by rising name, and these changes put
-- its files of version 1 again
pub record HasRead (before now : Told) (map : Definitions) (finds : Found) (read : FoundDomains) : Type 0 where
  pub opened : IsOpened before now map finds
  pub tidied : Tidies before now
  pub good : fault_in map finds.definitions ≡ None
  pub domains : IsByName (domains_in map finds.definitions) read.domains
  pub again : read.again ≡ again_in map finds.definitions
  pub kept : All (IsKeptOf map) read.domains
  pub few : length read.domains ≤ most_domains
  pub names : AreDistinct name_of read.domains
  pub uuids : AreDistinct (λ d. d.uuid) read.domains

-- a store that was opened and read, and whose files of version 1 were put again
pub record HasOpened {F : Type 0} (told : F → Told) (files : F) (finds : Found) (domains : List FoundDomain) (last : Keeping F) : Type 0 where
  pub first : Keeping F
  pub begun : IsBegun told first
  pub again : List Change
  pub read : HasRead (told files) (told first.files) (found first.map) finds (record { domains = domains; again = again })
  pub put : HasPut again first last
