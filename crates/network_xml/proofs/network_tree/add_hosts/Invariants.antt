use Rattle.std.proofs.Common.{◌≡◌, ◌++◌, length}
use Rattle.std.specs.Prelude.{map}
use Rattle.text_spec.specs.Tree.{seen}
use Rattle.network_xml.specs.NetworkPrinted.{host_tree}
use Rattle.network_xml.proofs.network_tree.add_hosts.Given as goal

abbrev pub invariant-loop-host : goal.invariant-loop-host
invariant-loop-host l = map seen l.out.items ++ map host_tree l.rest ≡ map seen l.initial.out.items ++ map host_tree l.hosts

abbrev pub decreases-loop-host : goal.decreases-loop-host
decreases-loop-host l = length l.rest
