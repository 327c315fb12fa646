use Rattle.std.proofs.Common.{◌≡◌, ◌+◌, ◌-◌, ◌≢◌, min, ap, ◌∙◌, arith}
use Rattle.text_spec.specs.declared.tree.Tree.{out-Tree}
use Rattle.text_spec.specs.Tree.{seen, all_seen}
use Rattle.text_spec.specs.Writable.{size, sizes}
use Rattle.text_spec.proofs.Seen.{seen_parts}
use Rattle.xml_print.proofs.count.+count.Goals as goal

pub count_elements-returns-else-limit-eq0 : goal.count_elements-returns-else-limit-eq0
count_elements-returns-else-limit-eq0 t c =
    let tree = c.args.tree.now in
    let whole : size (seen tree) ≡ 1 + sizes (all_seen (out-Tree tree).children.items) = ap size (seen_parts tree) in
    let inner = ap (λ ts. sizes (all_seen ts)) c.as_slice.ensures.value in
    omega (arith, whole, inner, c.count_all.ensures)
