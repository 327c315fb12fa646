-- Definitions that claim a slot. No public clause cites these.
use Rattle.std.specs.Prelude.{◌≡◌, ℕ, List, [], Some, Result, Ok, Err}
use Rattle.outcome_spec.specs.Asked.{claim_of}
use Rattle.outcome_spec.specs.Shown.{text_shown}
use Rattle.session_spec.specs.DefinitionText.{definition_in}
use Rattle.slot_holds.specs.Holds.{call_of}
use Rattle.text_spec.specs.Fill.{IsFilledBy}
use Rattle.virt_types.specs.Below.types_base.declared.domain_def.DomainDef.{DomainDef}
use Rattle.virt_types.specs.Below.types_base.declared.memory.NoMemory.{NoMemory}
use Rattle.virt_types.specs.Below.types_base.declared.memory.OrNoMemory.{OrNoMemory}
use Rattle.virt_types.specs.Below.types_base.declared.memory.OrNoMemory.TheVariants as or
use Rattle.virt_types.specs.Below.types_base.declared.refusal.Refusal.{Refusal}
use Rattle.request_asks.specs.Words.{IsDefinitionBy}
use Rattle.request_asks.specs.declared.claiming.Claimed.{Claimed}

-- the slot is asked for by the definition's name and identifier
abbrev pub ClaimsItsOwn : Claimed → Type 0
ClaimsItsOwn c = call_of c.hold ≡ claim_of c.definition

-- a definition was filled in by these words and claims its slot, or there was no memory, and no word was drawn
abbrev pub IsClaimed : List ℕ → DomainDef → Result Claimed NoMemory → Type 0
IsClaimed words read (Ok c) = IsFilledBy words read c.definition × ClaimsItsOwn c
IsClaimed words read (Err none) = words ≡ []

-- the same of the definition that a text is, or why the text is refused
abbrev pub IsClaimedBy : List ℕ → List ℕ → Result Claimed (OrNoMemory Refusal) → Type 0
IsClaimedBy words xml (Ok c) = IsDefinitionBy words xml c.definition × ClaimsItsOwn c
IsClaimedBy words xml (Err (or.Fault why)) = (words ≡ []) × (text_shown (definition_in xml) ≡ Some why)
IsClaimedBy words xml (Err or.NoMemory) = words ≡ []
