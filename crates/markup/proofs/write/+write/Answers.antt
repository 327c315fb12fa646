use Rattle.std.proofs.Common.{◌≡◌, ◌+◌, ◌<◌, ◌++◌, ◌∷◌, [], drop, ap, sym, ◌∙◌, arith, length}
use Rattle.std.specs.Prelude.{chars}
use Rattle.std.proofs.lemmas.Bool.Decides.{nat_tests}
use Rattle.std.proofs.lemmas.List.{drop_more, drop_all}
use Rattle.std.proofs.lemmas.Result.{on_ok_weaker}
use Rattle.text_spec.specs.declared.tree.Tree.{out-Tree}
use Rattle.text_spec.specs.Written.{opened}
use Rattle.markup.proofs.Writing.{tree_moved, none_left, tree_without, tree_with}
use Rattle.markup.proofs.write.+write.Goals as goal

pub push_tree-returns-then-is_empty : goal.push_tree-returns-then-is_empty
push_tree-returns-then-is_empty t c =
    let tree = c.args.tree.now in
    let name = c.as_slice-then-is_empty.ensures.value ∙ c.in_ok-name.ensures.value ∙ ap chars c.as_str.ensures.value in
    let text = c.as_slice-then-is_empty-2.ensures.value ∙ c.in_ok-text.ensures.value ∙ ap chars c.as_str-2.ensures.value in
    let opening = c.in_ok-push_opened.ensures
    ∙ ap (λ n. c.args.out.now.items ++ opened c.args.inset.now n c.as_slice-2.result.now) (c.as_slice.ensures.value ∙ sym c.as_slice-then-is_empty.ensures.value) in
    let none : length (out-Tree tree).children.items ≡ 0 = grind (arith, nat_tests) in
    on_ok_weaker c.push_without_children.result
    (λ now. tree_without c.args.inset.now c.args.out.now.items c.push_opened.new.out.items _ _ _ _ tree name c.as_slice-2.ensures text opening none now)
    c.push_without_children.ensures

pub push_tree-returns : goal.push_tree-returns
push_tree-returns t c =
    let tree = c.args.tree.now in
    let name = c.as_slice-else-is_empty.ensures.value ∙ c.in_ok-name.ensures.value ∙ ap chars c.as_str.ensures.value in
    let text = c.as_slice-else-is_empty-2.ensures.value ∙ c.in_ok-text.ensures.value ∙ ap chars c.as_str-2.ensures.value in
    let opening = c.in_ok-push_opened.ensures
    ∙ ap (λ n. c.args.out.now.items ++ opened c.args.inset.now n c.as_slice-2.result.now) (c.as_slice.ensures.value ∙ sym c.as_slice-else-is_empty.ensures.value) in
    let some : 0 < length (out-Tree tree).children.items = grind (arith, nat_tests) in
    on_ok_weaker c.push_with_children.result
    (λ now. tree_with c.args.inset.now c.args.out.now.items c.push_opened.new.out.items _ _ _ _ tree name c.as_slice-2.ensures text
    opening c.as_slice-else-is_empty-3.result.now c.as_slice-else-is_empty-3.ensures.value some now)
    c.push_with_children.ensures

pub push_trees-loop-tree-preserved : goal.push_trees-loop-tree-preserved
push_trees-loop-tree-preserved t c =
    let l = c.loop-tree in
    let xs = c.args.trees.now in
    let x = c.tree-item.result in
    let here : drop l.tree-index xs ≡ x ∷ drop (l.tree-index + 1) xs =
    drop_more xs l.tree-index x (omega arith) ∙ ap (λ y. y ∷ drop (l.tree-index + 1) xs) (sym c.tree-item.is) in
    tree_moved c.args.inset.now l.out.items c.push_tree.new.out.items x (drop l.tree-index xs) (drop (l.tree-index + 1) xs) here c.in_ok-push_tree.ensures
    ∙ l.invariant

pub push_trees-returns : goal.push_trees-returns
push_trees-returns t c =
    let l = c.loop-tree in
    let xs = c.args.trees.now in
    let none : drop l.tree-index xs ≡ [] = drop_all l.tree-index xs (omega arith) in
    sym (none_left c.args.inset.now l.out.items (drop l.tree-index xs) none) ∙ l.invariant
