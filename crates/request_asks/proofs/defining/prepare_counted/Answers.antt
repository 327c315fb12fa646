use Rattle.std.proofs.Common.{◌≡◌, ℕ, ℤ, List, refl, subst, sym, to_z, of_z, w32}
use Rattle.std.proofs.lemmas.Int.{to_z-of_z}
use Rattle.std.specs.Prelude.{int_lt, pos}
use Rattle.outcome_spec.specs.Below.domain_requests.declared.task.Task.TheVariants as task
use Rattle.virt_types.specs.declared.call.Call.TheVariants as call
use Rattle.virt_types.specs.declared.request.Request.TheVariants as request
use Rattle.request_asks.specs.Said.{IsSaid}
use Rattle.request_asks.specs.declared.asked.Asked.TheVariants as asked
use Rattle.request_asks.proofs.Drawn.{made_of_none}
use Rattle.request_asks.proofs.Saying.{counted_shown, said_none, said_prepare, text_refused}
use Rattle.request_asks.proofs.defining.prepare_counted.Goals as goal

pub returns-in-Err : goal.returns-in-Err
returns-in-Err g c = made_of_none (λ words. IsSaid words (request.MigratePrepare c.args.xml.now c.args.running c.args.state.now) asked.NoMemory) _ (said_none (request.MigratePrepare c.args.xml.now c.args.running c.args.state.now) refl)

pub returns-in-Ok-claim_text : goal.returns-in-Ok-claim_text
returns-in-Ok-claim_text g c =
    let claimed = c.in-Ok-claim_text.ensures in
    let it = c.in-Ok-claim_text.claimed in
    let back : to_z w32 (of_z w32 c.args.running) ≡ c.args.running = to_z-of_z w32 c.args.running c.ranges.running in (
      claimed.0,
      subst (λ (x : List ℕ × ℤ). IsSaid claimed.0 (request.MigratePrepare c.args.xml.now c.args.running c.args.state.now) (asked.Task it.hold (task.Run (call.Prepare it.definition (int_lt (pos 0) x.1) x.0)))) (λ i. (sym c.in-Ok.ensures i, sym back i))
          (said_prepare claimed.0 c.args.xml.now c.args.state.now c.args.running it c.requires claimed.1),
      claimed.2,
    )

pub returns-in-Err-claim_text : goal.returns-in-Err-claim_text
returns-in-Err-claim_text g c =
    let refuses = c.in-Err-claim_text.ensures in
    let r = request.MigratePrepare c.args.xml.now c.args.running c.args.state.now in (
      refuses.0,
      subst (IsSaid refuses.0 r) (sym c.refused.ensures)
          (text_refused refuses.0 c.args.xml.now r c.in-Err-claim_text.why refl (counted_shown c.args.xml.now c.args.state.now c.args.running c.requires) refuses.1),
      refuses.2,
    )
