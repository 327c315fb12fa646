-- Codes of errors by their numbers.
use Rattle.std.specs.Prelude.{◌==◌, ℕ, List, [], ◌∷◌, Option, find}
use Rattle.virt_types.specs.Refusal.{refusal_number}
use Rattle.virt_types.specs.Below.types_base.declared.refusal.RefusalCode.{RefusalCode}
use Rattle.virt_types.specs.Below.types_base.declared.refusal.RefusalCode.TheVariants as code

abbrev pub every_code : List RefusalCode
every_code =
    code.NoMemory ∷ code.UnknownProcedure ∷ code.InvalidArgument ∷ code.OperationFailed ∷ code.BadDefinition ∷
    code.DomainExists ∷ code.NetworkExists ∷ code.StoreFailed ∷ code.MalformedCall ∷ code.NoDomain ∷
    code.NoNetwork ∷ code.NoPool ∷ code.NoVolume ∷ code.OperationInvalid ∷ code.OperationTimeout ∷
    code.NoSnapshot ∷ code.OperationAborted ∷ code.GuestEnded ∷ code.MonitorLost ∷ code.TooManyWaiting ∷
    code.ListFull ∷ code.NotBuilt ∷ code.Stalled ∷ code.SnapshotExists ∷
    code.NoFreeSlot ∷ code.EventsLost ∷ code.CountSpent ∷ code.PoolExists ∷ code.VolumeExists ∷ []

-- the code with this number
unfoldable pub code_numbered : ℕ → Option RefusalCode
code_numbered number = find (λ c. refusal_number c == number) every_code
