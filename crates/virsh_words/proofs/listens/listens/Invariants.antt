use Rattle.std.proofs.Common.{◌≡◌, ◌-◌}
use Rattle.command_spec.specs.Reading.{first_listens}
use Rattle.virsh_words.specs.Rest.{behind_listens, seen}
use Rattle.virsh_words.proofs.listens.listens.Given as goal

abbrev pub invariant-loop : goal.invariant-loop
invariant-loop l = behind_listens l.fn.list (first_listens l.fn.most (seen l.fn.rest)) ≡ behind_listens l.list (first_listens (l.fn.most - l.counter) (seen l.rest))
