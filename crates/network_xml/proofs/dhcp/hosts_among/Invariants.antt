use Rattle.std.proofs.Common.{◌≡◌, length}
use Rattle.std.specs.Prelude.{map}
use Rattle.text_spec.specs.Tree.{seen}
use Rattle.network_xml.proofs.Hosts.{behind, lines_in}
use Rattle.network_xml.proofs.dhcp.hosts_among.Given as goal

abbrev pub invariant-loop-tree : goal.invariant-loop-tree
invariant-loop-tree l = behind l.hosts (lines_in l.subnet (map seen l.rest)) ≡ lines_in l.subnet (map seen l.trees)

abbrev pub decreases-loop-tree : goal.decreases-loop-tree
decreases-loop-tree l = length l.rest
