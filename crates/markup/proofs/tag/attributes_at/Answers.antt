use Rattle.std.proofs.Common.{◌≡◌, ◌<◌, suc, ◌++◌, ◌∷◌, [], length, true, false, ap, ◌∙◌, arith, sym, Ok, None, Some}
use Rattle.text_spec.specs.Character.{starts_blank}
use Rattle.text_spec.specs.Tag.{tag_end_at, attribute_of, attributes_at, after_attributes}
use Rattle.markup.specs.View.{attribute_view}
use Rattle.markup.proofs.Attributes.{tag_flawed, tag_ended, tag_glued, attribute_stopped, attribute_more, one_less}
use Rattle.markup.proofs.tag.attributes_at.Goals as goal

pub returns-in-Err-clause-reads : goal.returns-in-Err-clause-reads
returns-in-Err-clause-reads c =
    let i = c.tag.invariant in
    i.5 ∙ tag_flawed _ c.tag.found i.0 i.1 _ _ _ _ c.flaw-tag.ensures c.flaw-told.ensures c.skip_blanks-after.ensures.value _ c.in-Err.ensures.reads

pub returns-in-Ok-Some-clause-reads : goal.returns-in-Ok-Some-clause-reads
returns-in-Ok-Some-clause-reads c =
    let i = c.tag.invariant in
    let end : tag_end_at c.flaw-tag.result c.skip_blanks-after.result.now ≡ Ok (Some (c.in-Ok-Some.is_empty, c.in-Ok-Some.following.now)) =
    rw c.in-Ok-Some.field-0-is at c.in-Ok-Some.ensures.reads in
    i.5 ∙ tag_ended _ c.tag.found i.0 i.1 _ _ _ _ c.flaw-tag.ensures c.flaw-told.ensures c.skip_blanks-after.ensures.value _ end

pub returns-then-not-starts_blank-clause-reads : goal.returns-then-not-starts_blank-clause-reads
returns-then-not-starts_blank-clause-reads c =
    let i = c.tag.invariant in
    let none : tag_end_at c.flaw-tag.result c.skip_blanks-after.result.now ≡ Ok None = rw c.in-Ok-None.field-0-is at c.in-Ok-None.ensures.reads in
    let glued : starts_blank c.tag.rest.now ≡ false = cc in
    i.5 ∙ tag_glued _ c.tag.found i.0 i.1 _ _ _ _ c.flaw-tag.ensures c.flaw-told.ensures c.skip_blanks-after.ensures.value none glued

pub returns-in-Err-attribute_at-clause-reads : goal.returns-in-Err-attribute_at-clause-reads
returns-in-Err-attribute_at-clause-reads c =
    let i = c.tag.invariant in
    let none : tag_end_at c.flaw-tag.result c.skip_blanks-after.result.now ≡ Ok None = rw c.in-Ok-None.field-0-is at c.in-Ok-None.ensures.reads in
    let apart : starts_blank c.tag.rest.now ≡ true = cc in
    attribute_stopped _ c.tag.found i.0 i.1 _ _ _ _ c.flaw-tag.ensures c.flaw-told.ensures c.skip_blanks-after.ensures.value
    _ i.5 none apart _ (c.in-Err-attribute_at.ensures.reads i.1 i.4)

pub tag-preserved : goal.tag-preserved
tag-preserved c =
    let i = c.tag.invariant in
    let none : tag_end_at c.flaw-tag.result c.skip_blanks-after.result.now ≡ Ok None = rw c.in-Ok-None.field-0-is at c.in-Ok-None.ensures.reads in
    let apart : starts_blank c.tag.rest.now ≡ true = cc in
    let a = c.in-Ok.attribute in
    let more = attribute_more _ c.tag.found i.0 i.1 _ _ _ _ c.flaw-tag.ensures c.flaw-told.ensures c.skip_blanks-after.ensures.value
    _ i.5 none apart (attribute_view a).0 a.rest.now (c.in-Ok.ensures.reads i.1 i.4) in
    let within : length a.rest.now < length c.tag.rest.now = omega (arith, c.in-Ok.ensures.within, c.skip_blanks-after.ensures.within) in
    let fewer = one_less (length a.rest.now) i.0 (omega (arith, within, i.2)) in
    let pushed : c.push.new.self ≡ c.tag.found ++ attribute_of (attribute_view a).0 ∷ [] =
    c.in_ok-push.ensures.ok ∙ ap (λ p. c.tag.found ++ p ∷ []) c.in_ok-pair_of.ensures in (
      fewer.0,
      a.name.now ∷ i.1,
      fewer.2,
      omega (arith, within, i.3),
      c.in-Ok.ensures.names i.1 i.4,
      more
          ∙ ap (λ k. after_attributes (c.tag.found ++ attribute_of (attribute_view a).0 ∷ []) (attributes_at k c.args.start.now (a.name.now ∷ i.1) a.rest.now)) (sym fewer.1)
          ∙ ap (λ ps. after_attributes ps (attributes_at (suc fewer.0) c.args.start.now (a.name.now ∷ i.1) a.rest.now)) (sym pushed),
    )
