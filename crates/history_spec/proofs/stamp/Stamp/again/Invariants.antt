use Rattle.history_spec.proofs.stamp.Stamp.again.Given as goal

abbrev pub ghost-copy_of : goal.ghost-copy_of
ghost-copy_of a = a.stamp.now.number
