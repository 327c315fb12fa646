use Rattle.object_list.proofs.Chronicles.{kept-new}
use Rattle.object_list.proofs.list.ObjectList.new.Goals as goal

pub invariant_of-result : goal.invariant_of-result
invariant_of-result c = kept-new c.in_ok-table.table c.begin-chronicle.result c.in_ok-table.ensures.most c.begin-chronicle.ensures
