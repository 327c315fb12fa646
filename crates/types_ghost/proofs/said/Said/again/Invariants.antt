use Rattle.types_ghost.proofs.said.Said.again.Given as goal

abbrev pub ghost-after : goal.ghost-after
ghost-after t a = a._old.now.value
