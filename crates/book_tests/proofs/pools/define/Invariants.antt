use Rattle.book_tests.proofs.pools.define.Given as goal

abbrev pub ghost-may_define : goal.ghost-may_define
ghost-may_define a = 0

abbrev pub ghost-define : goal.ghost-define
ghost-define a = 0
