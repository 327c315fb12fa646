use Rattle.std.proofs.Common.{◌≡◌, ◌∙◌, ℤ, ◌++◌, [], ap, codes, decimal, subst, sym, to_z, of_z, w32}
use Rattle.std.specs.Fmt.{signed_decimal}
use Rattle.std.proofs.lemmas.Int.{to_z-of_z}
use Rattle.outcome_spec.specs.Below.domain_requests.Requests.{Fails}
use Rattle.session_spec.specs.Refused.{refusal}
use Rattle.session_spec.specs.Bounds.{passed}
use Rattle.virt_types.specs.Below.types_base.declared.refusal.RefusalCode.TheVariants as code
use Rattle.virt_types.specs.declared.request.Request.TheVariants as request
use Rattle.request_asks.specs.Said.{IsSaid}
use Rattle.request_asks.specs.declared.asked.Asked.TheVariants as asked
use Rattle.request_asks.specs.declared.asked.Listing.TheVariants as listing
use Rattle.request_asks.proofs.Saying.{said_names, said_too_many}
use Rattle.request_asks.proofs.listing.list_names.Goals as goal

pub returns-in-None : goal.returns-in-None
returns-in-None c =
    let back : to_z w32 (of_z w32 c.args.most) ≡ c.args.most = to_z-of_z w32 c.args.most c.ranges.most in
    subst (λ (n : ℤ). IsSaid [] (request.ListDefinedDomains c.args.most) (asked.List (listing.Idle n))) (sym back) (said_names c.args.most (sym (ap passed back) ∙ sym c.in-None.ensures))

pub returns-in-Some : goal.returns-in-Some
returns-in-Some c =
    let back : to_z w32 (of_z w32 c.args.most) ≡ c.args.most = to_z-of_z w32 c.args.most c.ranges.most in
    subst (IsSaid [] (request.ListDefinedDomains c.args.most)) (sym c.refused.ensures) (said_too_many c.args.most c.in-Some.bound c.refuse_number.result (sym (ap passed back) ∙ sym c.in-Some.ensures)
    (subst (λ (n : ℤ). Fails c.refuse_number.result (refusal code.InvalidArgument (signed_decimal n ++ codes " " ++ decimal c.in-Some.bound))) back c.refuse_number.ensures))
