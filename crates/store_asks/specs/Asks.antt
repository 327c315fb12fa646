-- What the asks of a domain make of the store: a change of its definitions, or an image; and what its results answer.
use Rattle.std.specs.Prelude.{ℕ, Bool, List, replicate, unwrap_or, Result, Ok, Err}
use Rattle.virt_types.specs.declared.answer.Answer.{Answer}
use Rattle.virt_types.specs.declared.answer.Answer.TheVariants as answer
use Rattle.virt_types.specs.declared.answer.AnswerValue.TheVariants as given
use Rattle.virt_types.specs.declared.ask.ImageKind.{ImageKind}
use Rattle.virt_types.specs.Below.types_base.declared.caller.Front.{Front}
use Rattle.virt_types.specs.Below.types_base.declared.domain_def.DomainDef.{DomainDef}
use Rattle.virt_types.specs.Below.types_base.declared.memory.Fault.{Fault}
use Rattle.virt_types.specs.Below.types_base.declared.memory.Fault.TheVariants as fault
use Rattle.virt_types.specs.Below.types_base.declared.memory.OrNoMemory.{OrNoMemory}
use Rattle.virt_types.specs.Below.types_base.declared.memory.OrNoMemory.TheVariants as or
use Rattle.store_spec.specs.declared.change.Change.{Change}
use Rattle.store_spec.specs.declared.change.Change.TheVariants as change
use Rattle.store_spec.specs.declared.image.Image.{Image}
use Rattle.store_spec.specs.declared.kind.BookKind.TheVariants as kind
use Rattle.def_keeper.specs.declared.mark.StoreFault.{StoreFault}
use Rattle.def_keeper.specs.declared.mark.StoreFault.TheVariants as store
use Rattle.domain_texts.specs.Below.session_spec.DefinitionText.{text_of}
use Rattle.domain_texts.specs.Kept.{entry_of}

-- the identifier of a domain of this definition; one without has the nil UUID (RFC 9562, section 5.9)
abbrev pub identifier : DomainDef → List ℕ
identifier d = unwrap_or d.uuid (replicate 16 0)

-- a definition is kept, with its title
abbrev pub put_of : DomainDef → Bool → Change
put_of d autostart = change.Put kind.Domain (identifier d) (entry_of d autostart)

-- the definition of this domain is kept no more
abbrev pub drop_of : List ℕ → Change
drop_of uuid = change.Drop kind.Domain uuid

-- the image of a guest of this definition
abbrev pub image_of : ImageKind → DomainDef → Bool → List ℕ → Image
image_of k d running bytes = record { kind = k; running = running; text = text_of d; saved = bytes }

-- a name is kept for another identifier
abbrev pub name_kept : ℕ
name_kept = 28

-- there is no network of the name
abbrev pub no_network : ℕ
no_network = 11

-- what a change answers
abbrev pub change_answer : Result Front (OrNoMemory StoreFault) → Answer
change_answer (Ok front) = answer.Ok (given.Front front)
change_answer (Err (or.Fault store.Device)) = answer.Device
change_answer (Err (or.Fault (store.NameKept one two))) = answer.Refused name_kept
change_answer (Err or.NoMemory) = answer.NoMemory

-- what an image that was to be written answers
abbrev pub image_answer : Result (Unit {0}) Fault → Answer
image_answer (Ok done) = answer.Ok given.Nothing
image_answer (Err fault.Failed) = answer.Device
image_answer (Err fault.NoMemory) = answer.NoMemory
