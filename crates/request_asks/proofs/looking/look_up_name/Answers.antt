use Rattle.std.proofs.Common.{ℕ, List, [], ◌∙◌, refl, subst, sym}
use Rattle.outcome_spec.specs.Below.domain_requests.declared.task.Task.TheVariants as task
use Rattle.slot_holds.specs.declared.Hold.TheVariants as hold
use Rattle.virt_types.specs.declared.call.Query.TheVariants as query
use Rattle.virt_types.specs.declared.request.Request.TheVariants as request
use Rattle.request_asks.specs.Said.{IsSaid}
use Rattle.request_asks.specs.declared.asked.Asked.TheVariants as asked
use Rattle.request_asks.proofs.Saying.{said_name, said_none}
use Rattle.request_asks.proofs.looking.look_up_name.Goals as goal

pub returns-in-Ok : goal.returns-in-Ok
returns-in-Ok c = subst (λ (text : List ℕ). IsSaid [] (request.DomainLookupByName c.args.name.now) (asked.Task (hold.Name text) (task.Read query.Reference))) (sym (c.in-Ok.ensures ∙ c.as_bytes.ensures)) (said_name c.args.name.now)

pub returns-in-Err : goal.returns-in-Err
returns-in-Err c = said_none (request.DomainLookupByName c.args.name.now) refl
