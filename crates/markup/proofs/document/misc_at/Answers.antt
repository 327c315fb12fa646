use Rattle.std.proofs.Common.{◌<◌, length, ap, ◌∙◌, sym, arith}
use Rattle.text_spec.specs.Text.{misc_at}
use Rattle.markup.proofs.Attributes.{one_less}
use Rattle.markup.proofs.Miscellany.{misc_ends, misc_flawed, misc_more, misc_stops}
use Rattle.markup.proofs.document.misc_at.Goals as goal

pub returns-in-Nothing : goal.returns-in-Nothing
returns-in-Nothing c =
    let i = c.misc.invariant in
    rw (misc_ends i.0 _ _ c.skip_blanks-after.ensures.value _ i.2 (sym c.in-Nothing.ensures)) c.at_end.ensures

pub returns-in-Err : goal.returns-in-Err
returns-in-Err c =
    let i = c.misc.invariant in
    misc_flawed i.0 _ _ c.skip_blanks-after.ensures.value _ i.2 (sym c.in-Aside.ensures) _ c.in-Err.ensures.reads

pub misc-preserved : goal.misc-preserved
misc-preserved c =
    let i = c.misc.invariant in
    let following = c.in-Ok.read.1.now in
    let more = misc_more i.0 _ _ c.skip_blanks-after.ensures.value _ i.2 (sym c.in-Aside.ensures) _ _ c.in-Ok.ensures.reads in
    let within : length following < length c.misc.rest.now = omega (arith, c.in-Ok.ensures.within, c.skip_blanks-after.ensures.within) in
    let fewer = one_less (length following) i.0 (omega (arith, within, i.1)) in
    (fewer.0, fewer.2, more ∙ ap (λ k. misc_at k following) (sym fewer.1))

pub returns-in_default : goal.returns-in_default
returns-in_default c =
    let i = c.misc.invariant in
    misc_stops i.0 _ _ c.skip_blanks-after.ensures.value _ i.2 c.ahead_of.result c.in_default.not-Nothing c.in_default.not-Aside (sym c.ahead_of.ensures)
