-- Case: the request itself shows why it is refused, before anybody looks at a cell.
use Rattle.std.specs.Prelude.{◌≡◌, ◌⊎◌, ℕ, ℤ, ◌++◌, List, Bool, true, false, codes, decimal, Option, None, Some, Ok, Err, Result}
use Rattle.std.specs.Fmt.{signed_decimal}
use Rattle.domain_requests.specs.Requests.{parsed_as, passed_one}
use Rattle.domain_requests.specs.Below.procedure_spec.Requests.{procedure_of}
use Rattle.domain_requests.specs.Below.procedure_spec.declared.table.Row.{Row}
use Rattle.domain_requests.specs.Below.procedure_spec.Procedures.{row_of}
use Rattle.domain_requests.specs.Below.session_spec.DefinitionText.{definition_in}
use Rattle.domain_requests.specs.Below.session_spec.Refused.{refusal}
use Rattle.domain_requests.specs.Below.session_spec.Bounds.{passed}
use Rattle.domain_requests.specs.declared.task.Parsed.{Parsed}
use Rattle.virt_types.specs.Below.types_base.declared.domain_def.DomainDef.{DomainDef}
use Rattle.virt_types.specs.Name.{bad_place}
use Rattle.virt_types.specs.declared.object_request.DomainRequest.{DomainRequest}
use Rattle.virt_types.specs.declared.object_request.DomainRequest.TheVariants as on_domain
use Rattle.virt_types.specs.Below.types_base.declared.refusal.Refusal.{Refusal}
use Rattle.virt_types.specs.Below.types_base.declared.refusal.RefusalCode.TheVariants as code
use Rattle.virt_types.specs.declared.request.Request.{Request}
use Rattle.virt_types.specs.declared.request.Request.TheVariants as request

-- what is built of the procedures for one domain: all but registrations
abbrev pub is_built_of_domain : DomainRequest → Bool
is_built_of_domain on_domain.EventRegister = false
is_built_of_domain on_domain.EventDeregister = false
is_built_of_domain other = true

-- and of all: networks and pools are not built
abbrev pub is_built : Request → Bool
is_built (request.OnDomain target asked) = is_built_of_domain asked
is_built (request.OnNetwork target asked) = false
is_built (request.OnPool target asked) = false
is_built (request.ListDefinedNetworks most) = false
is_built (request.ListNetworks most) = false
is_built (request.NetworkDefineXml xml) = false
is_built (request.NetworkLookupByName name) = false
is_built (request.PoolDefine xml) = false
is_built (request.PoolLookup name) = false
is_built request.PoolList = false
is_built other = true

-- a text has no reading
abbrev pub text_shown : Result DomainDef (List ℕ) → Option Refusal
text_shown (Ok d) = None
text_shown (Err kept) = Some (refusal code.BadDefinition kept)

-- a number passes this bound
abbrev pub number_shown : ℤ → Option ℕ → Option Refusal
number_shown n None = None
number_shown n (Some bound) = Some (refusal code.InvalidArgument (signed_decimal n ++ codes " " ++ decimal bound))

-- the first of two
abbrev pub or_else : Option Refusal → Option Refusal → Option Refusal
or_else (Some why) other = Some why
or_else None other = other

-- a text is no name
abbrev pub name_shown : List ℕ → Option ℕ → Option Refusal
name_shown text None = None
name_shown text (Some at) = Some (refusal code.InvalidArgument text)

-- why a text is refused by what it says
abbrev pub parse_shown : Result Parsed Refusal → Option Refusal
parse_shown (Ok p) = None
parse_shown (Err why) = Some why

-- why a request is refused by what it says: a number, a name, and then a text
abbrev pub shown_by : Request → Option Refusal
shown_by (request.OnDomain target asked) = parse_shown (parsed_as asked)
shown_by (request.DomainDefineXml xml) = text_shown (definition_in xml)
shown_by (request.DomainCreateXml xml flags) = text_shown (definition_in xml)
shown_by (request.MigratePrepare xml running state) = or_else (number_shown running (passed_one running)) (text_shown (definition_in xml))
shown_by (request.DomainRestore from) = name_shown from (bad_place from)
shown_by (request.ListDefinedDomains most) = number_shown most (passed most)
shown_by other = None

-- a procedure that is not built is refused with its number
pub record IsNotBuilt (asked : Request) (why : Refusal) : Type 0 where
  pub not_built : is_built asked ≡ false
  pub line : Row
  pub is_line : row_of line.program line.number ≡ Some line
  pub procedure : procedure_of asked ≡ line.procedure
  pub tells : why ≡ refusal code.NotBuilt (decimal line.number)

-- the request shows why it is refused
abbrev pub IsShown : Request → Refusal → Type 0
IsShown asked why = (shown_by asked ≡ Some why) ⊎ IsNotBuilt asked why
