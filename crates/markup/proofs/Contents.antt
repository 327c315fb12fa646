-- What is inside an element, a step at a time.
use Rattle.std.proofs.Common.{◌≡◌, ℕ, zero, suc, ◌-◌, ◌<◌, List, [], ◌∷◌, ◌++◌, Result, Ok, Err, refl, sym, ◌∙◌, ap, ap₂, arith, append_assoc, append-nil}
use Rattle.text_spec.specs.declared.ahead.Ahead.{Ahead}
use Rattle.text_spec.specs.declared.ahead.Ahead.TheVariants as ahead
use Rattle.text_spec.specs.declared.fault.Flaw.{Flaw}
use Rattle.text_spec.specs.Reading.{ended, ◌>>=◌}
use Rattle.text_spec.specs.Tag.{opening_tag_at}
use Rattle.text_spec.specs.Tree.{Tree, Trees, none, first, trees, before}
use Rattle.text_spec.specs.Element.{Grown, Inside, ElementReading, ahead_of, piece_at, after_inside, with_piece, inside_by, content_at, after_opening, element_at}
use Rattle.types_base.specs.Memory.{FailsUnlessNoMemory}
use Rattle.types_base.specs.declared.memory.OrNoMemory.{OrNoMemory}
use Rattle.types_base.specs.declared.memory.OrNoMemory.TheVariants as or
use Rattle.markup.specs.View.{IsText}

before_before : (ts us : List Tree) (others : Trees) → before ts (before us others) ≡ before (ts ++ us) others
before_before [] us others = refl
before_before (t ∷ ts) us others = ap (first t) (before_before ts us others)

before_none : (ts : List Tree) → before ts none ≡ trees ts
before_none [] = refl
before_none (t ∷ ts) = ap (first t) (before_none ts)

with_parts : Inside → List ℕ → Trees → Result Inside Flaw
with_parts i text children = Ok (record { text = text; children = children; room = i.room; rest = i.rest })

after_after : (a b : List ℕ) (xs ys : List Tree) (r : Result Inside Flaw)
    → after_inside a xs (after_inside b ys r) ≡ after_inside (a ++ b) (xs ++ ys) r
unfolding with_parts
after_after a b xs ys (Err f) = refl
after_after a b xs ys (Ok i) = ap₂ (with_parts i) (sym (append_assoc a b i.text)) (before_before xs ys i.children)

inside_text : (a : Ahead) (child : ElementReading) (more : ℕ → List ℕ → Result Inside Flaw) (room : ℕ) (cs : List ℕ)
    → IsText a → inside_by a child more room cs ≡ with_piece more room (piece_at a cs)
inside_text ahead.Nothing child more room cs h = absurd h
inside_text ahead.ClosingTag child more room cs h = absurd h
inside_text ahead.Element child more room cs h = absurd h
inside_text ahead.Aside child more room cs h = refl
inside_text ahead.Reference child more room cs h = refl
inside_text ahead.Run child more room cs h = refl

module _ (child : ElementReading) (front : List ℕ) (kids : List Tree) (m room : ℕ) (rest : List ℕ)
    (whole : Result Inside Flaw) (whole_is : whole ≡ after_inside front kids (content_at child (suc m) room rest)) where
  step : (a : Ahead) → ahead_of rest ≡ a → whole ≡ after_inside front kids (inside_by a child (content_at child m) room rest)
  unfolding content_at
  step a e = whole_is ∙ ap (λ b. after_inside front kids (inside_by b child (content_at child m) room rest)) e

  pub content_ends : ahead_of rest ≡ ahead.Nothing → whole ≡ Err ended
  content_ends e = step ahead.Nothing e

  pub content_closes : ahead_of rest ≡ ahead.ClosingTag
      → whole ≡ Ok (record { text = front; children = trees kids; room = room; rest = rest })
  unfolding with_parts
  content_closes e =
      step ahead.ClosingTag e
      ∙ ap₂ (with_parts (record { text = []; children = none; room = room; rest = rest })) (append-nil front) (before_none kids)

  pub child_stops : ahead_of rest ≡ ahead.Element → (s : OrNoMemory Flaw) → FailsUnlessNoMemory s (child room rest) → FailsUnlessNoMemory s whole
  child_stops e or.NoMemory h = tt
  child_stops e (or.Fault f) h = step ahead.Element e ∙ rw h

  pub child_read : ahead_of rest ≡ ahead.Element → (g : Grown) → child room rest ≡ Ok g
      → whole ≡ after_inside front (kids ++ g.tree ∷ []) (content_at child m g.room g.rest)
  child_read e g h =
      step ahead.Element e
      ∙ rw h (after_after front [] kids (g.tree ∷ []) (content_at child m g.room g.rest)
      ∙ ap (λ xs. after_inside xs (kids ++ g.tree ∷ []) (content_at child m g.room g.rest)) (append-nil front))

  module _ (a : Ahead) (text : IsText a) (begins : ahead_of rest ≡ a) where
    pub piece_flawed : (f : Flaw) → piece_at a rest ≡ Err f → whole ≡ Err f
    piece_flawed f h = step a begins ∙ rw (inside_text a child (content_at child m) room rest text, h)

    pub piece_read : (piece following : List ℕ) → piece_at a rest ≡ Ok (piece, following)
        → whole ≡ after_inside (front ++ piece) kids (content_at child m room following)
    piece_read piece following h =
        step a begins
        ∙ rw (inside_text a child (content_at child m) room rest text, h)
        (after_after front piece kids [] (content_at child m room following)
        ∙ ap (λ xs. after_inside (front ++ piece) xs (content_at child m room following)) (append-nil kids))

-- an element below so many levels
pub element_step : (depth room : ℕ) (cs : List ℕ) → 0 < depth → 0 < room
    → element_at depth room cs ≡ (opening_tag_at cs >>= after_opening (element_at (depth - 1)) (room - 1))
unfolding element_at
element_step zero room cs d r = absurd (omega arith)
element_step (suc depth) zero cs d r = absurd (omega arith)
element_step (suc depth) (suc room) cs d r =
    let one : suc depth - 1 ≡ depth = omega arith in
    let other : suc room - 1 ≡ room = omega arith in
    rw (one, other)
