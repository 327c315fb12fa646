-- Why a name or a number is refused.
use Rattle.std.proofs.Common.{◌≡◌, ℕ, ℤ, ◌++◌, List, Some, codes, decimal}
use Rattle.std.specs.Fmt.{signed_decimal}
use Rattle.session_spec.specs.Refused.{refusal}
use Rattle.virt_types.specs.Name.{bad_place}
use Rattle.virt_types.specs.Below.types_base.declared.memory.OrNoMemory.{OrNoMemory}
use Rattle.virt_types.specs.Below.types_base.declared.memory.OrNoMemory.TheVariants.{Fault, NoMemory}
use Rattle.virt_types.specs.Below.types_base.declared.refusal.Refusal.{Refusal}
use Rattle.virt_types.specs.Below.types_base.declared.refusal.RefusalCode.TheVariants as code
use Rattle.domain_requests.specs.Requests.{Fails, IsOutside, IsUnnamed, passed_one}

pub unnamed : (text : List ℕ) (at : ℕ) (e : OrNoMemory Refusal) → bad_place text ≡ Some at → Fails e (refusal code.InvalidArgument text) → IsUnnamed text e
unnamed text at (Fault r) bad why = (at, bad, why)
unnamed text at NoMemory bad why = tt

pub outside : (n : ℤ) (bound : ℕ) (e : OrNoMemory Refusal) → passed_one n ≡ Some bound → Fails e (refusal code.InvalidArgument (signed_decimal n ++ codes " " ++ decimal bound)) → IsOutside n e
outside n bound (Fault r) passes why = (bound, passes, why)
outside n bound NoMemory passes why = tt
