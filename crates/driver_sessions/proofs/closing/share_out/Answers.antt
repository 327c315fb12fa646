use Rattle.std.proofs.Common.{◌∙◌, ℕ, arith, subst}
use Rattle.driver_crossing.specs.Below.driver.Cells.{BecomesMany}
use Rattle.driver_crossing.proofs.Below.driver_close.OneRow.{many_long, many_whole, whole_has}
use Rattle.driver_sessions.proofs.closing.share_out.Goals as goal

pub more-requires-clause-parts : goal.more-requires-clause-parts
more-requires-clause-parts g c = whole_has c.rows_for.result c.args.row (omega (arith, c.rows_for.ensures, c.requires.few)) c.requires.ready.slots c.requires.whole

pub returns-in-Ok-clause-made : goal.returns-in-Ok-clause-made
returns-in-Ok-clause-made g c = subst (λ (n : ℕ). BecomesMany g.F.Files.told g.G.Guests.faults n c.args.row c.in-Ok.rows.list) c.rows_for.ensures c.in-Ok.ensures.ok

pub returns-in-Ok-clause-six_each : goal.returns-in-Ok-clause-six_each
returns-in-Ok-clause-six_each g c = many_long g.F.Files.told g.G.Guests.faults c.rows_for.result c.args.row c.in-Ok.rows.list c.in-Ok.ensures.ok ∙ c.rows_for.ensures

pub returns-in-Ok-clause-whole : goal.returns-in-Ok-clause-whole
returns-in-Ok-clause-whole g c =
    many_whole g.F.Files.told g.G.Guests.faults c.rows_for.result c.args.row c.in-Ok.rows.list c.in-Ok.ensures.ok (omega (arith, c.rows_for.ensures, c.requires.few)) c.requires.ready.slots c.requires.whole
