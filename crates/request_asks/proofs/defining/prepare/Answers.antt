use Rattle.std.proofs.Common.{◌≡◌, ◌∙◌, ℤ, ◌++◌, [], ap, codes, decimal, subst, sym, to_z, of_z, w32}
use Rattle.std.specs.Fmt.{signed_decimal}
use Rattle.std.proofs.lemmas.Int.{to_z-of_z}
use Rattle.outcome_spec.specs.Below.domain_requests.Requests.{Fails, passed_one}
use Rattle.session_spec.specs.Refused.{refusal}
use Rattle.virt_types.specs.Drawn.{IsMadeOfDrawn}
use Rattle.virt_types.specs.Below.types_base.declared.refusal.RefusalCode.TheVariants as code
use Rattle.virt_types.specs.declared.request.Request.TheVariants as request
use Rattle.request_asks.specs.Said.{IsSaid}
use Rattle.request_asks.proofs.Drawn.{made_of_none}
use Rattle.request_asks.proofs.Saying.{said_uncounted}
use Rattle.request_asks.proofs.defining.prepare.Goals as goal

pub returns-in-None : goal.returns-in-None
returns-in-None g c =
    let back : to_z w32 (of_z w32 c.args.running) ≡ c.args.running = to_z-of_z w32 c.args.running c.ranges.running in
    subst (λ (n : ℤ). IsMadeOfDrawn (λ words. IsSaid words (request.MigratePrepare c.args.xml.now n c.args.state.now) c.prepare_counted.result) (g.R.Random.drawn c.args.random.now) (g.R.Random.drawn c.prepare_counted.new.random)) back c.prepare_counted.ensures

pub returns-in-Some : goal.returns-in-Some
returns-in-Some g c =
    let r = request.MigratePrepare c.args.xml.now c.args.running c.args.state.now in
    let back : to_z w32 (of_z w32 c.args.running) ≡ c.args.running = to_z-of_z w32 c.args.running c.ranges.running in
    made_of_none (λ words. IsSaid words r c.refused.result) _
    (subst (IsSaid [] r) (sym c.refused.ensures) (said_uncounted c.args.xml.now c.args.state.now c.args.running c.in-Some.bound c.refuse_number.result (sym (ap passed_one back) ∙ sym c.in-Some.ensures)
    (subst (λ (n : ℤ). Fails c.refuse_number.result (refusal code.InvalidArgument (signed_decimal n ++ codes " " ++ decimal c.in-Some.bound))) back c.refuse_number.ensures)))
