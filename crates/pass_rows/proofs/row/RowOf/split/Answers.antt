use Rattle.std.proofs.Common.{◌≡◌, ◌≤◌, ◌+◌, ℕ, length, arith, subst}
use Rattle.pass_rows.specs.Rows.{IsSplit, PassRow}
use Rattle.pass_rows.proofs.Splits.{all_of_split, all_idle_split}
use Rattle.pass_rows.proofs.row.RowOf.split.Goals as goal

pub returns-clause-own : goal.returns-clause-own
returns-clause-own g c = all_of_split g.L.Kept.meaning g.S.Kept.meaning g.D.Kept.meaning _ _ _ _ _ _ c.make_blanks.new.guests _ c.row.view_is c.requires.own c.cut_rows.ensures

pub returns-clause-idle : goal.returns-clause-idle
returns-clause-idle g c = all_idle_split g.L.Kept.meaning g.S.Kept.meaning g.D.Kept.meaning _ _ _ c.make_blanks.new.guests _ c.row.view_is c.cut_rows.ensures

pub returns-clause-ok : goal.returns-clause-ok
returns-clause-ok g c =
    let Row = PassRow g.row.L-Base.Denot g.row.L-Mark.Denot g.row.L-Share.Denot g.row.S-Base.Denot g.row.S-Mark.Denot g.row.S-Share.Denot g.row.D-Base.Denot g.row.D-Mark.Denot g.row.D-Share.Denot g.row.G.Denot in
    let maker = c.make_blanks.new.guests in
    let blanks = c.in-Ok-make_blanks.blanks.items in
    let rows = c.cut_rows.result.items in
    let count : length blanks + 1 ≡ c.args.rows = omega (arith, c.in-Ok-make_blanks.ensures.count, c.requires.some) in
    record {
      maker = maker;
      failed = subst (λ (r : Row). g.G.Guests.faults r.guests ≤ g.G.Guests.faults maker) c.row.view_is c.make_blanks.ensures.faults;
      is_split = subst (λ (k : ℕ). IsSplit g.L.Kept.meaning g.S.Kept.meaning g.D.Kept.meaning k (record c.args.self { guests = maker }) rows) count
          (subst (λ (r : Row). IsSplit g.L.Kept.meaning g.S.Kept.meaning g.D.Kept.meaning (length blanks + 1) (record r { guests = maker }) rows) c.row.view_is c.cut_rows.ensures);
    }
