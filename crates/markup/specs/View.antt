-- What private values of the reader stand for.
use Rattle.std.specs.Prelude.{ℕ, List, [], ◌∷◌}
use Rattle.text_spec.specs.declared.ahead.Ahead.{Ahead}
use Rattle.text_spec.specs.declared.ahead.Ahead.TheVariants as ahead
use Rattle.text_spec.specs.Tag as spec
use Rattle.text_spec.specs.Tree.{seen, all_seen}
use Rattle.text_spec.specs.Element as element
use Rattle.markup.specs.declared.element.Grown.{Grown}
use Rattle.markup.specs.declared.element.Inside.{Inside}
use Rattle.markup.specs.declared.element.Piece.{Piece}
use Rattle.markup.specs.declared.element.Piece.TheVariants.{One, Many}
use Rattle.markup.specs.declared.tag.Attribute.{Attribute}
use Rattle.markup.specs.declared.tag.Tag.{Tag}

-- the tag
abbrev pub tag_view : Tag → spec.Tag
tag_view t = record { name = t.name.now; attributes = t.attributes; is_empty = t.is_empty }

-- the name and the value of an attribute, and what follows it
abbrev pub attribute_view : Attribute → (List ℕ × List ℕ) × List ℕ
attribute_view a = ((a.name.now, a.value.items), a.rest.now)

-- the characters of a piece of text
abbrev pub piece_text : Piece → List ℕ
piece_text (One c) = c ∷ []
piece_text (Many cs) = cs.now

-- what is inside an element
abbrev pub inside_view : Inside → element.Inside
inside_view i =
    record { text = i.text.items; children = all_seen i.children.items; room = i.room; rest = i.rest.now }

-- a tree, and what is left
abbrev pub grown_view : Grown → element.Grown
grown_view g = record { tree = seen g.tree; room = g.room; rest = g.rest.now }

-- text of some kind begins
abbrev pub IsText : Ahead → Type 0
IsText ahead.Nothing = ⊥
IsText ahead.ClosingTag = ⊥
IsText ahead.Element = ⊥
IsText ahead.Aside = Unit {0}
IsText ahead.Reference = Unit {0}
IsText ahead.Run = Unit {0}
