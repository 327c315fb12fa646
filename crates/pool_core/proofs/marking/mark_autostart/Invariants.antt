use Rattle.pool_core.proofs.marking.mark_autostart.Given as goal

abbrev pub ghost-leave_refusal : goal.ghost-leave_refusal
ghost-leave_refusal g a = g.mark
