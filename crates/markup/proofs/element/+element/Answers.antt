use Rattle.std.proofs.Common.{◌≡◌, suc, ◌<◌, [], ◌∷◌, ◌++◌, length, ap, ◌∙◌, arith, rules, sym, Err}
use Rattle.std.specs.Prelude.{map}
use Rattle.std.proofs.lemmas.List.{map-append}
use Rattle.text_spec.specs.Tree.{seen}
use Rattle.text_spec.specs.Element.{ahead_of, element_at, content_at, after_inside}
use Rattle.markup.specs.View.{IsText, grown_view, piece_text}
use Rattle.markup.proofs.Attributes.{one_less}
use Rattle.markup.proofs.Contents.{content_ends, content_closes, child_stops, child_read, piece_flawed, piece_read, element_step}
use Rattle.markup.proofs.element.+element.Goals as goal

pub content_at-returns-in-Nothing-clause-reads : goal.content_at-returns-in-Nothing-clause-reads
content_at-returns-in-Nothing-clause-reads t c =
    let i = c.content.invariant in
    content_ends (element_at c.args.depth) c.content.text.items (map seen c.content.children.items) i.0 _ _ _ i.3 (sym c.in-Nothing.ensures)
    ∙ ap Err (sym c.ended.ensures)

pub content_at-returns-in-ClosingTag-clause-reads :
    goal.content_at-returns-in-ClosingTag-clause-reads
content_at-returns-in-ClosingTag-clause-reads t c =
    let i = c.content.invariant in
    content_closes (element_at c.args.depth) c.content.text.items (map seen c.content.children.items) i.0 _ _ _ i.3 (sym c.in-ClosingTag.ensures)

pub content_at-returns-in-Err-clause-reads : goal.content_at-returns-in-Err-clause-reads
content_at-returns-in-Err-clause-reads t c =
    let i = c.content.invariant in
    child_stops (element_at c.args.depth) c.content.text.items (map seen c.content.children.items) i.0 _ _ _ i.3 (sym c.in-Element.ensures)
    c.in-Err.stop c.in-Err.ensures.reads

pub content_at-content-preserved-in-Element : goal.content_at-content-preserved-in-Element
content_at-content-preserved-in-Element t c =
    let i = c.content.invariant in
    let g = c.in-Ok.grown in
    let read = child_read (element_at c.args.depth) c.content.text.items (map seen c.content.children.items) i.0 _ _ _ i.3 (sym c.in-Element.ensures)
    (grown_view g) c.in-Ok.ensures.reads in
    let within : length g.rest.now < length c.content.rest.now = c.in-Ok.ensures.within in
    let fewer = one_less (length g.rest.now) i.0 (omega (arith, within, i.1)) in
    let pushed : map seen c.push.new.self.items ≡ map seen c.content.children.items ++ seen g.tree ∷ [] =
    ap (map seen) c.in_ok-push-in-Element.ensures.items ∙ map-append seen c.content.children.items (g.tree ∷ []) in (
      fewer.0,
      fewer.2,
      omega (arith, within, i.2),
      read
          ∙ ap (λ k. after_inside c.content.text.items (map seen c.content.children.items ++ seen g.tree ∷ []) (content_at (element_at c.args.depth) k g.room g.rest.now)) (sym fewer.1)
          ∙ ap (λ ts. after_inside c.content.text.items ts (content_at (element_at c.args.depth) (suc fewer.0) g.room g.rest.now)) (sym pushed),
    )

pub content_at-returns-in-Err-piece_at-clause-reads :
    goal.content_at-returns-in-Err-piece_at-clause-reads
content_at-returns-in-Err-piece_at-clause-reads t c =
    let i = c.content.invariant in
    let begins : ahead_of c.content.rest.now ≡ c.ahead_of.result = sym c.ahead_of.ensures in
    let text : IsText c.ahead_of.result = search rules in
    piece_flawed (element_at c.args.depth) c.content.text.items (map seen c.content.children.items) i.0 _ _ _ i.3
    c.ahead_of.result text begins _ c.in-Err-piece_at.ensures.reads

pub content_at-content-preserved : goal.content_at-content-preserved
content_at-content-preserved t c =
    let i = c.content.invariant in
    let p = c.in-Ok-piece_at.read in
    let begins : ahead_of c.content.rest.now ≡ c.ahead_of.result = sym c.ahead_of.ensures in
    let text : IsText c.ahead_of.result = search rules in
    let read = piece_read (element_at c.args.depth) c.content.text.items (map seen c.content.children.items) i.0 _ _ _ i.3
    c.ahead_of.result text begins (piece_text p.0) p.1.now c.in-Ok-piece_at.ensures.reads in
    let within : length p.1.now < length c.content.rest.now = c.in-Ok-piece_at.ensures.within in
    let fewer = one_less (length p.1.now) i.0 (omega (arith, within, i.1)) in
    let added : c.add_piece.new.text.items ≡ c.content.text.items ++ piece_text p.0 = c.in_ok-add_piece-in_default.ensures in (
      fewer.0,
      fewer.2,
      omega (arith, within, i.2),
      read
          ∙ ap (λ k. after_inside (c.content.text.items ++ piece_text p.0) (map seen c.content.children.items) (content_at (element_at c.args.depth) k c.content.room p.1.now)) (sym fewer.1)
          ∙ ap (λ xs. after_inside xs (map seen c.content.children.items) (content_at (element_at c.args.depth) (suc fewer.0) c.content.room p.1.now)) (sym added),
    )

pub element_at-returns-clause-reads : goal.element_at-returns-clause-reads
element_at-returns-clause-reads t c =
    let step = element_step c.args.depth c.args.room c.args.chars.now (omega arith) (omega arith) in
    rw (step, c.in_ok-tag.ensures.reads) c.after_opening.ensures.reads
