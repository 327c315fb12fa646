use Rattle.book_spec.specs.declared.list.ListCall.TheVariants as call
use Rattle.object_list.proofs.Chronicles.{kept-marked}
use Rattle.object_list.proofs.list.ObjectList.claim.Goals as goal

pub invariant_of-self : goal.invariant_of-self
invariant_of-self g c = kept-marked g.number (call.Claim c.args.name.now c.args.uuid) c.claim_from-held.result c.self.inside.table c.claim_from-held.new.table c.self.inside.chronicle c.mark_claim.new.chronicle c.self.invariant
    c.claim_from-held.ensures.answer c.claim_from-held.ensures.held c.mark_claim.ensures c.claim_from-held.ensures.most
