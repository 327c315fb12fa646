use Rattle.std.proofs.Common.{◌≡◌, [], ◌∷◌, ◌++◌, length, ◌∙◌, sym, arith, false, true}
use Rattle.text_spec.specs.Character.{is_blank}
use Rattle.text_spec.specs.Element.{trimmed}
use Rattle.markup.proofs.Runs.{trim_more, trim_stops, trim_none}
use Rattle.markup.proofs.element.trimmed.Goals as goal

pub loop-c-preserved : goal.loop-c-preserved
loop-c-preserved c =
    let ends : c.loop-c.rest.now ≡ c.in-Some.before.now ++ c.in-Some.c.now ∷ [] = grind arith in
    let blank : is_blank c.in-Some.c.now ≡ true = cc in
    c.loop-c.invariant ∙ trim_more _ _ _ ends blank

pub returns-then-not-is_blank : goal.returns-then-not-is_blank
unfolding trimmed
returns-then-not-is_blank c =
    let ends : c.loop-c.rest.now ≡ c.in-Some.before.now ++ c.in-Some.c.now ∷ [] = grind arith in
    let other : is_blank c.in-Some.c.now ≡ false = cc in
    sym (c.loop-c.invariant ∙ trim_stops _ _ _ ends other)

pub returns-in_default : goal.returns-in_default
unfolding trimmed
returns-in_default c =
    let empty : length c.loop-c.rest.now ≡ 0 = grind arith in
    sym (c.loop-c.invariant ∙ trim_none _ empty)
