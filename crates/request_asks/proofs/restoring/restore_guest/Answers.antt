use Rattle.std.proofs.Common.{◌∙◌, Bool, ℕ, List, ap, inl, inr, refl, subst}
use Rattle.outcome_spec.specs.Below.domain_requests.declared.task.Task.TheVariants as task
use Rattle.text_spec.specs.Fill.{IsFilledBy}
use Rattle.virt_types.specs.declared.call.Call.TheVariants as call
use Rattle.virt_types.specs.Below.types_base.declared.domain_def.DomainDef.{DomainDef}
use Rattle.request_asks.specs.Turns.{IsRestoredGuest}
use Rattle.request_asks.specs.declared.asked.Asked.TheVariants as asked
use Rattle.request_asks.proofs.Drawn.{made_of_none}
use Rattle.request_asks.proofs.restoring.restore_guest.Goals as goal

abbrev Parts : Type 0
Parts = DomainDef × Bool × List ℕ

pub returns-in-Err : goal.returns-in-Err
returns-in-Err g c = made_of_none (λ words. IsRestoredGuest words c.args.guest asked.NoMemory) _ (inr (refl, refl))

pub returns-in-Ok-claim : goal.returns-in-Ok-claim
returns-in-Ok-claim g c =
    let claimed = c.in-Ok-claim.ensures in
    let it = c.in-Ok-claim.claimed in
    let parts = c.into_parts-read.result in (
      claimed.0,
      inl (record {
        hold = it.hold;
        definition = it.definition;
        filled = subst (λ (p : Parts). IsFilledBy claimed.0 p.0 it.definition) c.into_parts-read.ensures claimed.1.0;
        claims = claimed.1.1;
        asks =
            ap (λ (saved : List ℕ). asked.Task it.hold (task.Run (call.Restore it.definition parts.1 saved))) c.in-Ok.ensures
            ∙ ap (λ (p : Parts). asked.Task it.hold (task.Run (call.Restore it.definition p.1 p.2))) c.into_parts-read.ensures;
      }),
      claimed.2,
    )

pub returns-in-Err-claim : goal.returns-in-Err-claim
returns-in-Err-claim g c =
    let none = c.in-Err-claim.ensures in
    (none.0, inr (none.1, refl), none.2)
