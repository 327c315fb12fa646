-- Of which words a task is made: those that were drawn for what a definition, or a device, lacked.
use Rattle.std.specs.Prelude.{◌≡◌, ℕ, List, [], int_lt, pos, Ok}
use Rattle.def_keeper.specs.Chapters.{by}
use Rattle.def_keeper.specs.declared.mark.StoreAction.TheVariants as action
use Rattle.outcome_spec.specs.Below.domain_requests.Requests.{IsTaskOf, parsed_as}
use Rattle.outcome_spec.specs.Below.domain_requests.declared.task.Parsed.{Parsed}
use Rattle.outcome_spec.specs.Below.domain_requests.declared.task.Task.{Task}
use Rattle.outcome_spec.specs.Below.domain_requests.declared.task.Task.TheVariants as task
use Rattle.outcome_spec.specs.Marks.{HasLeft}
use Rattle.session_spec.specs.DefinitionText.{definition_in}
use Rattle.outcome_spec.specs.Below.store_asks.Restoring.{saved_in}
use Rattle.outcome_spec.specs.Below.store_asks.Turning.{StorePass}
use Rattle.outcome_spec.specs.Below.store_asks.declared.restoring.SavedGuest.{SavedGuest}
use Rattle.store_spec.specs.declared.image.Image.{Image}
use Rattle.text_spec.specs.Fill.{IsFilledBy}
use Rattle.virt_types.specs.declared.call.Call.TheVariants as call
use Rattle.virt_types.specs.Below.types_base.declared.domain_def.DomainDef.{DomainDef}
use Rattle.virt_types.specs.declared.request.Request.{Request}
use Rattle.virt_types.specs.declared.request.Request.TheVariants as request
use Rattle.request_asks.specs.Passes.{known}

-- the definition that a text is, with what it lacked made of these words
abbrev pub IsDefinitionBy : List ℕ → List ℕ → DomainDef → Type 0
IsDefinitionBy words xml d = (read : DomainDef) × (definition_in xml ≡ Ok read) × IsFilledBy words read d

-- the guest of an image that the pass read meanwhile
abbrev pub HasReadGuest : StorePass → StorePass → List ℕ → SavedGuest → Type 0
HasReadGuest before after from g =
    (i : Image) × HasLeft (known before) (known after) (by after.number (action.ImageRead from (Ok i))) × (saved_in i ≡ Ok g)

-- its definition, with what it lacked made of these words
abbrev pub IsGuestBy : StorePass → StorePass → List ℕ → List ℕ → SavedGuest → DomainDef → Type 0
IsGuestBy before after words from g d = HasReadGuest before after from g × IsFilledBy words g.definition d

-- the task of a request is made of exactly these words
abbrev pub IsTaskBy : StorePass → StorePass → List ℕ → Request → Task → Type 0
IsTaskBy before after words (request.OnDomain target asked) t = (p : Parsed) × (parsed_as asked ≡ Ok p) × IsTaskOf words p t
IsTaskBy before after words (request.DomainDefineXml xml) t = (d : DomainDef) × IsDefinitionBy words xml d × (t ≡ task.Run (call.Define d))
IsTaskBy before after words (request.DomainCreateXml xml flags) t = (d : DomainDef) × IsDefinitionBy words xml d × (t ≡ task.Run (call.Create d))
IsTaskBy before after words (request.MigratePrepare xml running state) t =
    (d : DomainDef) × IsDefinitionBy words xml d × (t ≡ task.Run (call.Prepare d (int_lt (pos 0) running) state))
IsTaskBy before after words (request.DomainRestore from) t =
    (g : SavedGuest) × (d : DomainDef) × IsGuestBy before after words from g d × (t ≡ task.Run (call.Restore d g.running g.state))
IsTaskBy before after words other t = words ≡ []
