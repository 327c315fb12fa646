use Rattle.std.proofs.Common.{◌-◌, ◌∙◌, subst, List, ℕ, None, arith}
use Rattle.object_list.specs.Index.{Updates}
use Rattle.object_list.proofs.Tables.{table-out, table-stays}
use Rattle.object_list.proofs.table.Table.release.Goals as goal

pub invariant_of-self : goal.invariant_of-self
invariant_of-self g c =
    let goes = c.in-Some.ensures.out in
    table-out c.self.inside.rows.items c.self.inside.by_name c.self.inside.by_uuid c.self.inside.free c.self.inside.holders c.self.invariant c.in-Some.row c.args.slot c.release_row-out.new.rows.items c.remove.new.self c.remove-in-Some.new.self c.give.new.self (c.self.inside.holders - 1) goes
    (subst (λ (bytes : List ℕ). Updates bytes None c.self.inside.by_name c.remove.new.self) (c.as_bytes.ensures.value ∙ c.name.ensures) c.remove.ensures)
    (subst (λ (bytes : List ℕ). Updates bytes None c.self.inside.by_uuid c.remove-in-Some.new.self) (c.as_bytes-in-Some.ensures ∙ c.uuid.ensures) c.remove-in-Some.ensures)
    c.give.ensures (omega (arith, goes.fewer, c.self.invariant.counted))

pub invariant_of-self-in_default : goal.invariant_of-self-in_default
invariant_of-self-in_default g c =
    let stays = c.in_default.ensures.stays in
    table-stays c.self.inside.rows.items c.self.inside.by_name c.self.inside.by_uuid c.self.inside.free c.self.inside.holders c.self.invariant c.args.slot c.release_row-out.new.rows.items (c.self.inside.holders - 1) stays (omega (arith, stays.fewer, c.self.invariant.counted))
