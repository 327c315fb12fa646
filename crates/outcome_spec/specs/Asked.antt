-- What a request asks, once its texts are read and filled in: of which domain, and what.
use Rattle.std.specs.Prelude.{◌≡◌, ℕ, List, int_lt, pos, None, Ok, Result}
use Rattle.book_spec.specs.declared.list.ListCall.{ListCall}
use Rattle.book_spec.specs.declared.list.ListCall.TheVariants as hold
use Rattle.store_asks.specs.Below.def_keeper.declared.mark.StoreAction.TheVariants as action
use Rattle.domain_requests.specs.Requests.{IsTaskOf, parsed_as, passed_one}
use Rattle.domain_requests.specs.declared.task.Parsed.{Parsed}
use Rattle.domain_requests.specs.declared.task.Task.{Task}
use Rattle.domain_requests.specs.declared.task.Task.TheVariants as task
use Rattle.domain_requests.specs.Below.session_spec.DefinitionText.{definition_in}
use Rattle.store_asks.specs.Asks.{identifier}
use Rattle.store_asks.specs.Restoring.{saved_in}
use Rattle.store_asks.specs.declared.restoring.SavedGuest.{SavedGuest}
use Rattle.store_spec.specs.declared.image.Image.{Image}
use Rattle.store_spec.specs.declared.image.ImageFault.{ImageFault}
use Rattle.text_spec.specs.Fill.{IsFilled}
use Rattle.virt_types.specs.declared.call.Call.TheVariants as call
use Rattle.virt_types.specs.declared.call.Query.TheVariants as query
use Rattle.virt_types.specs.Below.types_base.declared.domain_def.DomainDef.{DomainDef}
use Rattle.virt_types.specs.declared.object_request.DomainRequest.{DomainRequest}
use Rattle.virt_types.specs.declared.request.Request.{Request}
use Rattle.virt_types.specs.declared.request.Request.TheVariants as request
use Rattle.outcome_spec.specs.Marks.{HasLeft}
use Rattle.outcome_spec.specs.Rows.{KnownRow}

-- the definition that a text is, with all that it lacked
abbrev pub IsDefinition : List ℕ → DomainDef → Type 0
IsDefinition xml d = (read : DomainDef) × (definition_in xml ≡ Ok read) × IsFilled read d

-- the slot is claimed for the domain of a definition
abbrev pub claim_of : DomainDef → ListCall
claim_of d = hold.Claim d.name (identifier d)

-- the image of this name, as this request read it
abbrev pub HasReadImage : KnownRow → KnownRow → List ℕ → Result Image ImageFault → Type 0
HasReadImage before after name r = HasLeft before.store after.store (record { number = after.store.number; action = action.ImageRead name r })

-- the guest that is restored
abbrev pub IsRestored : KnownRow → KnownRow → List ℕ → SavedGuest → DomainDef → Type 0
IsRestored before after from g d = (i : Image) × HasReadImage before after from (Ok i) × (saved_in i ≡ Ok g) × IsFilled g.definition d

-- what is asked of a domain
abbrev pub IsTask : DomainRequest → Task → Type 0
IsTask asked t = (p : Parsed) × (words : List ℕ) × (parsed_as asked ≡ Ok p) × IsTaskOf words p t

-- how a request finds its domain, and what it asks of it
abbrev pub Asks : KnownRow → KnownRow → Request → ListCall → Task → Type 0
Asks before after (request.OnDomain target asked) h t = (h ≡ hold.HoldUuid target.uuid) × IsTask asked t
Asks before after (request.DomainLookupByName name) h t = (h ≡ hold.HoldName name) × (t ≡ task.Read query.Reference)
Asks before after (request.DomainLookupByUuid uuid) h t = (h ≡ hold.HoldUuid uuid) × (t ≡ task.Read query.Reference)
Asks before after (request.DomainDefineXml xml) h t = (d : DomainDef) × IsDefinition xml d × (h ≡ claim_of d) × (t ≡ task.Run (call.Define d))
Asks before after (request.DomainCreateXml xml flags) h t = (d : DomainDef) × IsDefinition xml d × (h ≡ claim_of d) × (t ≡ task.Run (call.Create d))
Asks before after (request.MigratePrepare xml running state) h t =
    (d : DomainDef) × (passed_one running ≡ None) × IsDefinition xml d × (h ≡ claim_of d) × (t ≡ task.Run (call.Prepare d (int_lt (pos 0) running) state))
Asks before after (request.DomainRestore from) h t =
    (g : SavedGuest) × (d : DomainDef) × IsRestored before after from g d × (h ≡ claim_of d) × (t ≡ task.Run (call.Restore d g.running g.state))
Asks before after other h t = ⊥
