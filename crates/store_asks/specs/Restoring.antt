-- What a restore is told of the image that is read for it.
use Rattle.std.specs.Prelude.{◌≡◌, ℕ, [], codes, Result, Ok, Err, List}
use Rattle.domain_texts.specs.Below.session_spec.DefinitionText.{definition_in}
use Rattle.domain_texts.specs.Below.session_spec.Refused.{refusal}
use Rattle.virt_types.specs.Memory.{UnlessNoMemory}
use Rattle.virt_types.specs.declared.ask.ImageKind.{ImageKind}
use Rattle.virt_types.specs.declared.ask.ImageKind.TheVariants as image
use Rattle.virt_types.specs.Below.types_base.declared.domain_def.DomainDef.{DomainDef}
use Rattle.virt_types.specs.Below.types_base.declared.memory.OrNoMemory.{OrNoMemory}
use Rattle.virt_types.specs.Below.types_base.declared.memory.OrNoMemory.TheVariants as or
use Rattle.virt_types.specs.Below.types_base.declared.refusal.Refusal.{Refusal}
use Rattle.virt_types.specs.Below.types_base.declared.refusal.RefusalCode.TheVariants as code
use Rattle.store_spec.specs.declared.image.Image.{Image}
use Rattle.store_spec.specs.declared.image.ImageFault.{ImageFault}
use Rattle.store_spec.specs.declared.image.ImageFault.TheVariants as fault
use Rattle.files_disk.specs.Telling.{Told}
use Rattle.def_keeper.specs.Keeper.{Keeping}
use Rattle.store_asks.specs.declared.restoring.SavedGuest.{SavedGuest}
use Rattle.store_asks.specs.Keeping.{IsRead}

-- there is no image of the name
abbrev pub absent : Refusal
absent = refusal code.OperationFailed (codes "class 21")

-- the file is no image, or is not that of a save
abbrev pub bad : Refusal
bad = refusal code.OperationFailed (codes "class 22")

-- why no image was read
abbrev pub unread : ImageFault → Refusal
unread fault.Device = refusal code.StoreFailed []
unread fault.NoImage = absent
unread (fault.BadImage f) = bad

-- why it is refused, unless there was no memory
abbrev pub Fails : OrNoMemory Refusal → Refusal → Type 0
Fails (or.Fault r) why = r ≡ why
Fails or.NoMemory why = Unit {0}

-- the guest of an image with this definition; the refusal of a text that is none keeps the place where it is none
abbrev pub of_definition : Image → Result DomainDef (List ℕ) → Result SavedGuest Refusal
of_definition i (Ok d) = Ok (record { definition = d; running = i.running; state = i.saved })
of_definition i (Err kept) = Err (refusal code.BadDefinition kept)

-- only what a save wrote is restored
abbrev pub of_kind : ImageKind → Image → Result SavedGuest Refusal
of_kind image.Save i = of_definition i (definition_in i.text)
of_kind image.Dump i = Err bad

-- the guest that an image is of, or why it is not restored
abbrev pub saved_in : Image → Result SavedGuest Refusal
saved_in i = of_kind i.kind i

-- what a restore is told of what was read
abbrev pub IsToldOf : Result Image (OrNoMemory ImageFault) → Result SavedGuest (OrNoMemory Refusal) → Type 0
IsToldOf (Ok i) told = UnlessNoMemory told (saved_in i)
IsToldOf (Err (or.Fault f)) told = UnlessNoMemory told (Err (unread f))
IsToldOf (Err or.NoMemory) told = told ≡ Err or.NoMemory

-- an answer other than out of memory
abbrev pub as_read : Result Image ImageFault → Result Image (OrNoMemory ImageFault)
as_read (Ok i) = Ok i
as_read (Err f) = Err (or.Fault f)

-- an image was read by this number, and a restore is told this of it
abbrev pub Reads : {F : Type 0} → (F → Told) → (F → ℕ) → ℕ → List ℕ → Keeping F → Keeping F → Result SavedGuest (OrNoMemory Refusal) → Type 0
Reads told faults number name old new result =
    (r : Result Image (OrNoMemory ImageFault)) × IsRead told faults number name old new r × IsToldOf r result
