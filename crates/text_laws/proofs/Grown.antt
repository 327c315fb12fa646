-- Elements that were read.
use Rattle.std.proofs.Common.{◌≡◌, ℕ, zero, suc, ◌+◌, List, [], ◌∷◌, ◌++◌, Result, subst, inl, inr, arith, length}
use Rattle.text_spec.specs.declared.ahead.Ahead.{Ahead}
use Rattle.text_spec.specs.declared.ahead.Ahead.TheVariants as ahead
use Rattle.text_spec.specs.declared.fault.Flaw.{Flaw}
use Rattle.text_spec.specs.Reading.{Reading, ◌>>=◌}
use Rattle.text_spec.specs.Tag.{Tag, opening_tag_at, closing_tag_at}
use Rattle.text_spec.specs.Tree.{Tree, Trees, none, before}
use Rattle.text_spec.specs.Element.{Grown, Inside, ElementReading, ahead_of, piece_at, after_inside, with_piece, with_element, inside_by, content_at, tree_of, after_opening, element_at}
use Rattle.text_spec.specs.Writable.{AreChars, IsTree, AreTrees, size, sizes}
use Rattle.text_laws.proofs.Parts.{bound, right, same_ok, chosen}
use Rattle.text_laws.proofs.Allowed.{named, both_all}
use Rattle.text_laws.proofs.Values.{Tagged, opening_good}
use Rattle.text_laws.proofs.Asides.{piece_good}
use Rattle.text_laws.proofs.Trimmed.{text_good}

-- what was read inside an element where so many further ones had room
record Held (depth room : ℕ) (i : Inside) : Type 0 where
  text : AreChars i.text
  children : AreTrees depth i.children
  count : i.room + sizes i.children ≡ room

pub record Full (depth room : ℕ) (g : Grown) : Type 0 where
  pub tree : IsTree depth g.tree
  pub count : g.room + size g.tree ≡ room

ContentReading : Type 0
ContentReading = ℕ → List ℕ → Result Inside Flaw

-- a text and elements, and what was read after them
abbrev joined : List ℕ → List Tree → Inside → Inside
joined text children i = record i { text = text ++ i.text; children = before children i.children }

module _ (depth : ℕ) (child : ElementReading)
    (child_good : (room : ℕ) (cs : List ℕ) (g : Grown) → child room cs ≡ right g → Full depth room g)
    (more : ℕ → List ℕ → Result Inside Flaw)
    (more_good : (room : ℕ) (cs : List ℕ) (i : Inside) → more room cs ≡ right i → Held depth room i) where
  piece_then : (room : ℕ) (piece : Reading (List ℕ)) (i : Inside) → ((r : List ℕ × List ℕ) → piece ≡ right r → AreChars r.0)
      → with_piece more room piece ≡ right i → Held depth room i
  piece_then room piece i good e =
      let b = bound piece (λ p. after_inside p.0 [] (more room p.1)) i e in
      let d = bound (more room b.value.1) (λ x. right (joined b.value.0 [] x)) i b.behind in
      let h = more_good room b.value.1 d.value d.before in
      subst (Held depth room) (same_ok (joined b.value.0 [] d.value) i d.behind)
      (record { text = both_all _ b.value.0 d.value.text (good b.value b.before) h.text; children = h.children; count = h.count })

  element_then : (room : ℕ) (cs : List ℕ) (i : Inside) → with_element more (child room cs) ≡ right i → Held depth room i
  element_then room cs i e =
      let b = bound (child room cs) (λ g. after_inside [] (g.tree ∷ []) (more g.room g.rest)) i e in
      let d = bound (more b.value.room b.value.rest) (λ x. right (joined [] (b.value.tree ∷ []) x)) i b.behind in
      let f = child_good room cs b.value b.before in
      let h = more_good b.value.room b.value.rest d.value d.before in
      subst (Held depth room) (same_ok (joined [] (b.value.tree ∷ []) d.value) i d.behind)
      (record { text = h.text; children = (f.tree, h.children); count = omega (arith, f.count, h.count) })

  inside_good : (a : Ahead) (room : ℕ) (cs : List ℕ) (i : Inside) → inside_by a child more room cs ≡ right i → Held depth room i
  inside_good ahead.Nothing room cs i e = absurd cc
  inside_good ahead.ClosingTag room cs i e =
      subst (Held depth room) (same_ok (record { text = []; children = none; room = room; rest = cs }) i e)
      (record { text = tt; children = tt; count = omega arith })
  inside_good ahead.Element room cs i e = element_then room cs i e
  inside_good ahead.Aside room cs i e = piece_then room (piece_at ahead.Aside cs) i (piece_good ahead.Aside cs) e
  inside_good ahead.Reference room cs i e = piece_then room (piece_at ahead.Reference cs) i (piece_good ahead.Reference cs) e
  inside_good ahead.Run room cs i e = piece_then room (piece_at ahead.Run cs) i (piece_good ahead.Run cs) e

abbrev whole : Tag → List ℕ → Trees → ℕ → List ℕ → Grown
whole tag text children room rest = record { tree = tree_of tag text children; room = room; rest = rest }

module _ (depth : ℕ) (child : ElementReading)
    (child_good : (room : ℕ) (cs : List ℕ) (g : Grown) → child room cs ≡ right g → Full depth room g) where
  content_good : (n room : ℕ) (cs : List ℕ) (i : Inside) → content_at child n room cs ≡ right i → Held depth room i
  unfolding content_at
  content_good zero room cs i e = absurd cc
  content_good (suc n) room cs i e =
      inside_good depth child child_good (content_at child n) (λ room cs i h. content_good n room cs i h) (ahead_of cs) room cs i e

  grown_good : (room : ℕ) (tag : Tag) (i : Inside) (rest : List ℕ) → Tagged tag → Held depth room i
      → Full (suc depth) (suc room) (whole tag i.text i.children i.room rest)
  grown_good room tag i rest t h = record {
    tree = (named tag.name t.name, t.attributes, text_good i.text h.text, h.children);
    count = omega (arith, h.count);
  }

  opened_good : (room : ℕ) (t : Tag × List ℕ) (g : Grown) → Tagged t.0 → after_opening child room t ≡ right g → Full (suc depth) (suc room) g
  opened_good room t g tagged e =
      let empty = whole t.0 [] none room t.1 in
      let closed = λ (i : Inside). closing_tag_at t.0.name i.rest >>= λ rest. right (whole t.0 i.text i.children i.room rest) in
      elim (chosen t.0.is_empty (right empty) (content_at child (length t.1 + 1) room t.1 >>= closed) (right g) e) [
        | inl is ↦ subst (Full (suc depth) (suc room)) (same_ok empty g is.1)
            (grown_good room t.0 (record { text = []; children = none; room = room; rest = t.1 }) t.1 tagged
            (record { text = tt; children = tt; count = omega arith }))
        | inr full ↦ (let b = bound (content_at child (length t.1 + 1) room t.1) closed g full.1 in
            let made = λ (rest : List ℕ). right (whole t.0 b.value.text b.value.children b.value.room rest) in
            let d = bound (closing_tag_at t.0.name b.value.rest) made g b.behind in
            subst (Full (suc depth) (suc room)) (same_ok (whole t.0 b.value.text b.value.children b.value.room d.value) g d.behind)
            (grown_good room t.0 b.value d.value tagged (content_good (length t.1 + 1) room t.1 b.value b.before)))
      ]

pub element_good : (depth room : ℕ) (cs : List ℕ) (g : Grown) → element_at depth room cs ≡ right g → Full depth room g
unfolding element_at
element_good zero room cs g e = absurd cc
element_good (suc depth) zero cs g e = absurd cc
element_good (suc depth) (suc room) cs g e =
    let b = bound (opening_tag_at cs) (λ t. after_opening (element_at depth) room t) g e in
    opened_good depth (element_at depth) (λ room cs g h. element_good depth room cs g h) room b.value g (opening_good cs b.value b.before) b.behind
