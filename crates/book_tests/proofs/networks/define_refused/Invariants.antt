use Rattle.book_spec.specs.declared.book.NetCall.TheVariants as call
use Rattle.book_tests.proofs.networks.define_refused.Given as goal

abbrev pub ghost-may_define : goal.ghost-may_define
ghost-may_define a = 0

abbrev pub ghost-refuse : goal.ghost-refuse
ghost-refuse a = call.Define a._def.now
