use Rattle.std.proofs.Common.{◌≡◌, ◌∙◌, refl}
use Rattle.virtd.proofs.checking.report.Goals as goal
use Rattle.virtd.proofs.checking.report.Goals.{else-is_ok, then-is_ok}

pub returns-after-is_ok : goal.returns-after-is_ok
returns-after-is_ok g c =
    let said : g.W.World.given c.if-is_ok.world ≡ g.W.World.given c.print-put.new.world = elim c.if-is_ok.branch [
      | then-is_ok w ↦ rw (w.world-is, w.say_first_damaged.ensures) refl
      | else-is_ok w ↦ rw w.world-is refl
    ] in
    rw c.in-Ok.is (
      c.print-put.result,
      rw (c.as_bytes.ensures, ← (c.status_once_printed.ensures.given ∙ said)) at c.print-put.ensures,
      rw (c.status_of-code.ensures, c.in-Ok.is) at c.status_once_printed.ensures.status,
    )
