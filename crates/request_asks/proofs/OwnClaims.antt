-- Definitions that claim a slot.
use Rattle.std.proofs.Common.{◌≡◌, ◌∙◌, ℕ, List, [], Some, Ok, Err, ap, refl, sym}
use Rattle.outcome_spec.specs.Below.domain_requests.Requests.{Fails}
use Rattle.outcome_spec.specs.Shown.{text_shown}
use Rattle.session_spec.specs.DefinitionText.{definition_in}
use Rattle.session_spec.specs.Refused.{refusal}
use Rattle.slot_holds.specs.Holds.{call_of}
use Rattle.slot_holds.specs.declared.Hold.TheVariants as hold
use Rattle.outcome_spec.specs.Below.store_asks.Asks.{identifier}
use Rattle.text_spec.specs.Fill.{IsFilledBy}
use Rattle.virt_types.specs.Below.types_base.declared.domain_def.DomainDef.{DomainDef}
use Rattle.virt_types.specs.Below.types_base.declared.memory.OrNoMemory.{OrNoMemory}
use Rattle.virt_types.specs.Below.types_base.declared.memory.OrNoMemory.TheVariants as or
use Rattle.virt_types.specs.Below.types_base.declared.refusal.Refusal.{Refusal}
use Rattle.virt_types.specs.Below.types_base.declared.refusal.RefusalCode.TheVariants as code
use Rattle.request_asks.specs.Claims.{IsClaimed, IsClaimedBy}
use Rattle.request_asks.specs.declared.claiming.Claimed.{Claimed}

-- the name stays where a definition is filled in
kept_name : (words : List ℕ) (read d : DomainDef) → IsFilledBy words read d → d.name ≡ read.name
kept_name words read d filled = ap (λ (x : DomainDef). x.name) filled.others

-- a claim by the name that was read, and the identifier that is there now
pub claims : (words name uuid : List ℕ) (read d : DomainDef) → name ≡ read.name → uuid ≡ identifier d → IsFilledBy words read d
    → IsClaimed words read (Ok (record { hold = hold.Claim name uuid; definition = d }))
claims words name uuid read d named is filled =
    let own : name ≡ d.name = named ∙ sym (kept_name words read d filled) in
    (filled, λ i. call_of (hold.Claim (own i) (is i)))

pub claims_text : (words xml : List ℕ) (read : DomainDef) (c : Claimed) → definition_in xml ≡ Ok read → IsClaimed words read (Ok c) → IsClaimedBy words xml (Ok c)
claims_text words xml read c is (filled, own) = ((read, is, filled), own)

-- a text that has no reading
pub refuses_text : (xml kept : List ℕ) (e : OrNoMemory Refusal) → definition_in xml ≡ Err kept → Fails e (refusal code.BadDefinition kept) → IsClaimedBy [] xml (Err e)
refuses_text xml kept (or.Fault why) is fails = (refl, ap text_shown is ∙ ap Some (sym fails))
refuses_text xml kept or.NoMemory is fails = refl
