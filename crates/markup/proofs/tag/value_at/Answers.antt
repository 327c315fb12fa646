use Rattle.std.proofs.Common.{◌≡◌, ◌∷◌, length, ap, ◌∙◌, arith, sym, Ok, Err}
use Rattle.text_spec.specs.Tag.{value_char_at, value_at, behind}
use Rattle.markup.proofs.Values.{value_ended, value_closed, value_stops, value_more}
use Rattle.markup.proofs.tag.value_at.Goals as goal

pub returns-then-c-quote-clause-reads : goal.returns-then-c-quote-clause-reads
returns-then-c-quote-clause-reads c =
    let begins : c.loop-c.rest.now ≡ c.in-Some.c.now ∷ c.in-Some.after.now = grind arith in
    let i = c.loop-c.invariant in
    i.3 ∙ value_closed c.args.told c.args.quote _ i.0 _ _ _ begins i.1 c.if-c-quote.true

pub returns-in-Err-clause-reads : goal.returns-in-Err-clause-reads
returns-in-Err-clause-reads c =
    let begins : c.loop-c.rest.now ≡ c.in-Some.c.now ∷ c.in-Some.after.now = grind arith in
    let i = c.loop-c.invariant in
    i.3 ∙ value_stops c.args.told c.args.quote _ i.0 _ _ _ _ begins i.1 c.if-c-quote.false c.in-Err.ensures.reads

pub loop-c-preserved : goal.loop-c-preserved
loop-c-preserved c =
    let begins : c.loop-c.rest.now ≡ c.in-Some.c.now ∷ c.in-Some.after.now = grind arith in
    let i = c.loop-c.invariant in
    let next : value_char_at c.args.told c.loop-c.rest.now ≡ Ok (c.in-Ok.read.0, c.in-Ok.read.1.now) = c.in-Ok.ensures.reads in
    let more = value_more c.args.told c.args.quote c.loop-c.found.items i.0 _ _ _ _ _ begins i.1 c.if-c-quote.false next in
    let within = c.in-Ok.ensures.within in (
      more.0,
      omega (arith, more.1, within),
      omega (arith, within, i.2),
      i.3 ∙ more.2 ∙ ap (λ front. behind front (value_at more.0 c.args.told c.args.quote c.in-Ok.read.1.now)) (sym c.in_ok-push.ensures.items),
    )

pub returns-clause-reads : goal.returns-clause-reads
returns-clause-reads c =
    let empty : length c.loop-c.rest.now ≡ 0 = grind arith in
    let i = c.loop-c.invariant in
    i.3 ∙ value_ended c.args.told c.args.quote _ i.0 _ empty ∙ ap Err (sym c.ended.ensures)
