use Rattle.object_list.proofs.list.ObjectList.new.Given as goal

abbrev pub ghost-begin : goal.ghost-begin
ghost-begin a = a._table.now
