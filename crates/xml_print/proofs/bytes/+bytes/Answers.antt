use Rattle.std.proofs.Common.{◌≡◌, ◌≤◌, ◌<◌, ◌-◌, ◌+◌, length, min, ap, ap₂, sym, subst, arith}
use Rattle.std.specs.Prelude.{chars}
use Rattle.std.specs.List.{flat_map}
use Rattle.std.proofs.lemmas.Bool.Decides.{nat_tests}
use Rattle.std.proofs.lemmas.List.{at_drop_all}
use Rattle.text_spec.specs.declared.tree.Tree.{out-Tree}
use Rattle.text_spec.specs.Tree.{all_seen}
use Rattle.text_spec.specs.Written.{in_text, attribute_written, deeper, without_children, trees_written}
use Rattle.xml_tables.proofs.Below.text_laws.Lengths.{none_room}
use Rattle.xml_print.specs.Room.{room, IsInset}
use Rattle.xml_print.proofs.Pieces.{deeper_inset, tree_childless, tree_parental, element_left}
use Rattle.xml_print.proofs.bytes.+bytes.Goals as goal

pub after_tree-returns-then-is_empty-clause-value : goal.after_tree-returns-then-is_empty-clause-value
after_tree-returns-then-is_empty-clause-value t c = λ blanks is.
    let tree = c.args.tree.now in
    let bare : length (out-Tree tree).children.items ≡ 0 = grind (arith, nat_tests) in
    let name = ap (λ s. room (chars s)) c.as_str.ensures.value in
    let attributes = ap (λ ps. room (flat_map attribute_written ps)) c.as_slice.ensures in
    let leaf = ap₂ (λ n x. room (without_children (chars n) (flat_map in_text (chars x)))) c.as_str-then-is_empty.ensures.value c.as_str-then-is_empty-2.ensures.value in
    tree_childless c.args.left c.args.inset blanks tree c.requires.left is c.after_leaf.result bare
    (omega (
      arith,
      name,
      attributes,
      leaf,
      c.saturating_sub.ensures,
      c.saturating_sub-inside.ensures,
      c.after_name-named.ensures,
      c.after_attributes-opened.ensures,
      c.after_leaf.ensures,
    ))

pub after_tree-returns-else-is_empty-clause-value : goal.after_tree-returns-else-is_empty-clause-value
after_tree-returns-else-is_empty-clause-value t c = λ blanks is.
    let tree = c.args.tree.now in
    let some : 1 ≤ length (out-Tree tree).children.items = grind (arith, nat_tests) in
    let name = ap (λ s. room (chars s)) c.as_str.ensures.value in
    let attributes = ap (λ ps. room (flat_map attribute_written ps)) c.as_slice.ensures in
    let text = ap (λ s. room (flat_map in_text (chars s))) c.as_str-else-is_empty.ensures.value in
    let closing = ap (λ s. room (chars s)) c.as_str-else-is_empty-2.ensures.value in
    let inset : IsInset c.min.result (deeper blanks) = subst (λ n. IsInset n (deeper blanks)) (sym c.min.ensures) (deeper_inset c.args.inset blanks is) in
    let inner = c.after_trees-inner.ensures.value (deeper blanks) inset in
    let kids = ap (λ ts. room (trees_written (deeper blanks) (all_seen ts))) c.as_slice-else-is_empty.ensures.value in
    tree_parental c.args.left c.args.inset blanks tree c.requires.left is c.saturating_sub-else-is_empty-2.result some
    (omega (
      arith,
      name,
      attributes,
      text,
      closing,
      inner,
      kids,
      c.saturating_sub.ensures,
      c.saturating_sub-inside.ensures,
      c.after_name-named.ensures,
      c.after_attributes-opened.ensures,
      c.after_text-texted.ensures,
      c.after_name-closed.ensures,
      c.saturating_sub-else-is_empty.ensures,
      c.saturating_sub-else-is_empty-2.ensures,
    ))

pub after_trees-loop-tree-preserved : goal.after_trees-loop-tree-preserved
after_trees-loop-tree-preserved t c =
    let l = c.loop-tree in
    let so_far = l.invariant in (
      omega (arith, so_far.0, c.after_tree-rest.ensures.less),
      λ blanks is. omega (
        arith,
        so_far.1 blanks is,
        element_left blanks c.args.trees.now l.tree-index c.tree-item.result l.rest c.after_tree-rest.result c.loop-tree-test.true c.tree-item.is
            (c.after_tree-rest.ensures.value blanks is),
      ),
    )

pub after_trees-returns : goal.after_trees-returns
after_trees-returns t c =
    let l = c.loop-tree in
    let so_far = l.invariant in
    record {
      less = so_far.0;
      value = λ blanks is. omega (
        arith,
        so_far.1 blanks is,
        at_drop_all (λ ts. room (trees_written blanks (all_seen ts))) c.args.trees.now l.tree-index (omega arith),
        none_room blanks,
      );
    }
