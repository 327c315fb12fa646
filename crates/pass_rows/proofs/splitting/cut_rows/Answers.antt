use Rattle.std.proofs.Common.{◌≡◌, ◌≤◌, ◌+◌, ℕ, [], ◌∷◌, ◌++◌, List, length, refl, sym, ap, ◌∙◌, subst, arith}
use Rattle.std.specs.List.{All}
use Rattle.std.proofs.lemmas.List.{length-append}
use Rattle.std.proofs.lemmas.List.Elements.{All-nil, All-same, All-pop}
use Rattle.pass_rows.specs.Rows.{PassRow, IsCutOffRow, fewer_row}
use Rattle.pass_rows.proofs.Splits.{row_none, last_fits, still_of, still_parts, still_wide, one_fewer, one_more_row}
use Rattle.pass_rows.proofs.splitting.cut_rows.Goals as goal

pub loop-blank-init : goal.loop-blank-init
loop-blank-init g c =
    let none : length c.args.room.items ≡ 0 = ap length c.requires.empty in
    record {
      row = row_none c.args.row ∙ ap (λ (n : ℕ). fewer_row n c.args.row) (sym none);
      count = omega arith;
      width = c.requires.width;
      new = All-same (IsCutOffRow g.L.Kept.meaning g.S.Kept.meaning g.D.Kept.meaning c.args.row) _ [] c.requires.empty (All-nil (IsCutOffRow g.L.Kept.meaning g.S.Kept.meaning g.D.Kept.meaning c.args.row));
      room = c.requires.room;
    }

pub cut_row-requires-clause-own : goal.cut_row-requires-clause-own
cut_row-requires-clause-own g c = still_of _ _ _ (length c.loop-blank.rows.items) _ _ c.loop-blank.invariant.row c.requires.own

pub cut_row-requires-clause-parts : goal.cut_row-requires-clause-parts
cut_row-requires-clause-parts g c =
    let more = ap length c.in-Some.ensures.items in
    still_parts (length c.loop-blank.rows.items) _ _ _ c.loop-blank.invariant.row (omega (arith, simp length-append at more)) c.requires.parts

pub cut_row-requires-clause-room : goal.cut_row-requires-clause-room
cut_row-requires-clause-room g c =
    let fits = last_fits (length c.args.row.domains) _ _ _ c.in-Some.ensures.items c.loop-blank.invariant.width in
    let wide = still_wide (length c.loop-blank.rows.items) _ _ c.loop-blank.invariant.row in
    omega (arith, fits.1, wide)

pub loop-blank-preserved : goal.loop-blank-preserved
loop-blank-preserved g c =
    let done = length-append c.loop-blank.rows.items (c.cut_row.result ∷ []) in
    let more = ap length c.push_reserved.ensures.items ∙ done in
    let fewer = ap length c.in-Some.ensures.items ∙ length-append c.pop.new.self.items (c.in-Some.blank ∷ []) in
    record {
      row = one_fewer (length c.loop-blank.rows.items) _ _ _ _ c.loop-blank.invariant.row c.cut_row.ensures.kept more;
      count = omega (arith, more, fewer, c.loop-blank.invariant.count);
      width = (last_fits (length c.args.row.domains) _ _ _ c.in-Some.ensures.items c.loop-blank.invariant.width).0;
      new = one_more_row g.L.Kept.meaning g.S.Kept.meaning g.D.Kept.meaning (length c.loop-blank.rows.items) _ _ _ _ _ c.loop-blank.invariant.row c.cut_row.ensures.new c.loop-blank.invariant.new c.push_reserved.ensures.items;
      room = omega arith;
    }
