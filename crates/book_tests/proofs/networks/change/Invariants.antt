use Rattle.book_tests.proofs.networks.change.Given as goal

abbrev pub ghost-may_undefine : goal.ghost-may_undefine
ghost-may_undefine a = 0

abbrev pub ghost-undefine : goal.ghost-undefine
ghost-undefine a = 0

abbrev pub ghost-may_autostart : goal.ghost-may_autostart
ghost-may_autostart a = 0

abbrev pub ghost-autostart : goal.ghost-autostart
ghost-autostart a = 0

abbrev pub ghost-start : goal.ghost-start
ghost-start a = 0

abbrev pub ghost-stop : goal.ghost-stop
ghost-stop a = 0
