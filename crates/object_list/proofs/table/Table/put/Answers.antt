use Rattle.std.proofs.Common.{◌+◌, ◌≤◌, ◌^◌, sym, ◌∙◌, subst, set, length, List, ℕ, Some, refl}
use Rattle.book_spec.specs.Slots.{Slots, all_holders}
use Rattle.object_list.specs.Index.{Updates}
use Rattle.object_list.specs.Table.{IsNew, IsTable}
use Rattle.object_list.proofs.Tables.{table-put}
use Rattle.object_list.proofs.Chronicles.{on_ok}
use Rattle.object_list.proofs.table.Table.put.Goals as goal

pub invariant_of-self-2 : goal.invariant_of-self-2
invariant_of-self-2 c =
    subst (λ (n : ℕ). IsTable (set c.self.inside.rows.items c.args.slot (Some c.args.row)) c.insert.new.self c.insert-2.new.self c.take.new.self (c.self.inside.holders + n)) (sym c.holders-holders.ensures)
    (table-put c.self.inside.rows.items c.self.inside.by_name c.self.inside.by_uuid c.self.inside.free c.self.inside.holders c.self.invariant c.args.slot c.args.row
    (set c.self.inside.rows.items c.args.slot (Some c.args.row)) c.insert.new.self c.insert-2.new.self c.take.new.self
    (subst (IsNew c.args.slot c.args.row.name c.args.row.uuid) (sym c.self.view_is) c.requires.free)
    (subst (λ (slots : Slots). all_holders slots + length c.args.row.holders ≤ 2 ^ 62) (sym c.self.view_is) c.requires.room)
    refl
    (subst (λ (bytes : List ℕ). Updates bytes (Some c.args.slot) c.self.inside.by_name c.insert.new.self) (c.as_bytes.ensures.value ∙ c.name.ensures) c.in_ok-insert.ensures.ok)
    (subst (λ (bytes : List ℕ). Updates bytes (Some c.args.slot) c.self.inside.by_uuid c.insert-2.new.self) (c.as_bytes-2.ensures ∙ c.uuid.ensures) (on_ok c.insert-2.result (sym c.is_err.ensures.value ∙ c.if-is_err.false) c.insert-2.ensures.ok))
    c.take.ensures)

pub returns-clause-most : goal.returns-clause-most
returns-clause-most c = (invariant_of-self-2 c).most
