use Rattle.book_spec.specs.declared.list.ListCall.TheVariants as call
use Rattle.object_list.proofs.list.ObjectList.claim.Given as goal

abbrev pub ghost-claim_from : goal.ghost-claim_from
ghost-claim_from g a = g.number

abbrev pub ghost-mark_claim : goal.ghost-mark_claim
ghost-mark_claim g a = (g.number, call.Claim a._name.now a._uuid)
