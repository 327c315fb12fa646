use Rattle.std.proofs.Common.{◌≡◌, ◌++◌, List, ℕ, true, false, codes, sym, ap, ◌∙◌}
use Rattle.store_spec.specs.DefinitionFile.{line}
use Rattle.store_reading.proofs.Reading.{AreRead, length_none, made_after, map_ok, told_else}
use Rattle.store_reading.proofs.definition.read_after.Goals as goal

true_false : true ≡ false → ⊥
true_false e = cc

pub returns-then-tells : goal.returns-then-tells
returns-then-tells c =
    let title = c.in-Some.title.now in
    let read : AreRead c.args.rest.now title c.in-Some-length_line.digits.now c.in-Some-length_line.text.now = record {
      title_is = c.in-Some.ensures.1;
      digits_are = c.in-Some-length_line.ensures.1;
      whole = c.in-Some.ensures.0 ∙ ap (λ (l : List ℕ). line (codes "title=" ++ title) ++ l) c.in-Some-length_line.ensures.0;
    } in
    map_ok c.entry_of.result (λ x made. made_after c.args.autostart c.args.name.now c.args.rest.now title c.in-Some-length_line.digits.now c.in-Some-length_line.text.now read (c.tells.ensures.0 c.if-tells.true) x made) c.entry_of.ensures

pub returns-else-tells : goal.returns-else-tells
returns-else-tells c =
    let title = c.in-Some.title.now in
    let read : AreRead c.args.rest.now title c.in-Some-length_line.digits.now c.in-Some-length_line.text.now = record {
      title_is = c.in-Some.ensures.1;
      digits_are = c.in-Some-length_line.ensures.1;
      whole = c.in-Some.ensures.0 ∙ ap (λ (l : List ℕ). line (codes "title=" ++ title) ++ l) c.in-Some-length_line.ensures.0;
    } in
    told_else c.args.autostart c.args.name.now c.args.rest.now title c.in-Some-length_line.digits.now c.in-Some-length_line.text.now read (λ told. true_false (sym (c.tells.ensures.1 told) ∙ c.if-tells.false))

pub returns-in-None-length_line : goal.returns-in-None-length_line
returns-in-None-length_line c = length_none c.args.autostart c.args.name.now c.args.rest.now c.in-Some.title.now c.in-Some.rest.now c.in-Some.ensures.0 c.in-Some.ensures.1 c.in-None-length_line.ensures
