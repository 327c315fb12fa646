use Rattle.std.proofs.Common.{◌≡◌, ◌∙◌, List, ℕ, Result, ap, subst}
use Rattle.std.specs.Result.{IfOk}
use Rattle.outcome_spec.specs.Below.store_asks.Asks.{identifier}
use Rattle.text_spec.specs.Fill.{IsFilledBy}
use Rattle.virt_types.specs.Below.types_base.declared.domain_def.DomainDef.{DomainDef}
use Rattle.virt_types.specs.Below.types_base.declared.memory.NoMemory.{NoMemory}
use Rattle.request_asks.proofs.OwnClaims.{claims}
use Rattle.request_asks.proofs.claiming.claim.Goals as goal

pub returns : goal.returns
returns g c =
    let filled = c.fill_domain.ensures in
    let new = c.fill_domain.new.def in
    let both = c.in-Ok.ensures.values in
    let named : c.in-Ok.made.0 ≡ c.args.read.name =
    subst (λ (r : Result (List ℕ) NoMemory). IfOk r (λ it. it ≡ c.args.read.name)) both.0 c.copy-name.ensures in
    let boxed : c.in-Ok.made.1 ≡ c.args.read =
    subst (λ (r : Result DomainDef NoMemory). IfOk r (λ it. it ≡ c.args.read)) both.1 c.new.ensures in
    let by : IsFilledBy filled.0 c.args.read new =
    subst (λ (old : DomainDef). IsFilledBy filled.0 old new) (c.as_mut.ensures.value ∙ boxed) filled.1 in
    (filled.0, claims filled.0 c.in-Ok.made.0 c.identifier-uuid.result c.args.read new named (c.identifier-uuid.ensures ∙ ap identifier c.as_ref.ensures) by, filled.2)
