use Rattle.std.proofs.Common.{◌∙◌, ap, is_some, sym}
use Rattle.domain_core.proofs.Begins.{must_begin}
use Rattle.domain_core.proofs.operations.look_for.Goals as goal

pub take_up-requires-clause-takes : goal.take_up-requires-clause-takes
take_up-requires-clause-takes c = ap is_some (sym c.takes_up.ensures ∙ c.in-Some.is)

pub begin_op-requires-clause-begins : goal.begin_op-requires-clause-begins
begin_op-requires-clause-begins c = must_begin c.args.call.now (sym c.takes_up.ensures ∙ c.in-None.is) c.requires.operates
