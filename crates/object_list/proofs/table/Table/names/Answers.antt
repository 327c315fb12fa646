use Rattle.std.proofs.Common.{◌≡◌, ◌∙◌, sym, subst, map, IfOk, List, ℕ}
use Rattle.book_spec.specs.Slots.{Slots}
use Rattle.object_list.specs.declared.slot_name.SlotName.{SlotName}
use Rattle.object_list.specs.Names.{AreNames, rows_of}
use Rattle.object_list.proofs.Naming.{are_names, if_ok}
use Rattle.object_list.proofs.table.Table.names.Goals as goal

pub returns : goal.returns
returns c =
    let rows : Slots = c.self.inside.rows.items in
    let slots : List ℕ = map (λ e. e.1) c.self.inside.by_name.slots.entries in
    let read : c.as_slice-2.result.now ≡ slots = c.as_slice-2.ensures.value ∙ c.in_ok-slots.ensures.slots in
    subst (λ (x : Slots). IfOk c.names_of.result (AreNames x)) c.self.view_is
    (if_ok (λ (names : List SlotName). names ≡ rows_of c.as_slice.result.now c.as_slice-2.result.now) (AreNames rows) c.names_of.result c.names_of.ensures
    (λ names is. subst (AreNames rows) (sym (is ∙ (λ i. rows_of (c.as_slice.ensures.value i) (read i)))) (are_names rows c.self.inside.by_name c.self.invariant.slots c.self.invariant.names c.in_order.ensures.ordered)))
