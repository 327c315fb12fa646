use Rattle.std.proofs.Common.{◌≡◌, false, not, true, arith, ap, sym, ◌∙◌}
use Rattle.row_session.proofs.Unserved.{not_ours, ours_none, ours_row}
use Rattle.row_session.proofs.asking.is_unserved.Goals as goal

pub returns-then-not-is_ours : goal.returns-then-not-is_ours
returns-then-not-is_ours g c =
    let no : c.is_ours.result ≡ false = grind (arith, c.if-not-is_ours.true) in
    sym (not_ours g.D.Service.is_served c.args.call.now (sym c.is_ours.ensures ∙ no))

pub returns-in-Some : goal.returns-in-Some
returns-in-Some g c =
    let yes : c.is_ours.result ≡ true = grind (arith, c.if-not-is_ours.false) in
    ap not c.reads.ensures ∙ sym (ours_row g.D.Service.is_served c.args.call.now c.in-Some.row (sym c.is_ours.ensures ∙ yes) (sym c.find.ensures ∙ c.in-Some.is))

pub returns-in-None : goal.returns-in-None
returns-in-None g c =
    let yes : c.is_ours.result ≡ true = grind (arith, c.if-not-is_ours.false) in
    sym (ours_none g.D.Service.is_served c.args.call.now (sym c.is_ours.ensures ∙ yes) (sym c.find.ensures ∙ c.in-None.is))
