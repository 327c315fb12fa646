-- The file that reports a live boot: the line `run 1 boot=B state=S op=K phase=P name=NAME`.
use Rattle.std.specs.Prelude.{◌≡◌, ◌≤◌, ◌^◌, ◌++◌, List, ℕ, codes}
use Rattle.std.specs.Fmt.{decimal}
use Rattle.virt_types.specs.declared.status.Status.{Status}
use Rattle.virt_types.specs.Name.{IsName}
use Rattle.virt_types.specs.Numbers.{job_number, phase_number, state_number}
use Rattle.store_spec.specs.DefinitionFile.{line}
use Rattle.store_spec.specs.FileNames.{IsUuid, status_name}

-- the bytes of the file
unfoldable pub status_bytes : Status → List ℕ
status_bytes s = line
    (codes "run 1 boot=" ++ decimal s.boot ++ codes " state=" ++ decimal (state_number s.state)
    ++ codes " op=" ++ decimal (job_number s.op) ++ codes " phase=" ++ decimal (phase_number s.phase)
    ++ codes " name=" ++ s.name)

-- a file of this name and these bytes reports this boot
pub record IsStatusFile (name bytes : List ℕ) (s : Status) : Type 0 where
  pub named : name ≡ status_name s.uuid
  pub spelling : bytes ≡ status_bytes s
  pub uuid : IsUuid s.uuid
  pub boot_least : 1 ≤ s.boot
  pub boot_most : s.boot ≤ 2 ^ 62
  pub name_is : IsName s.name
