-- Elements of XML 1.0 (fifth edition), productions 39 and 43, at most 32 deep and 4,096 in all.
use Rattle.std.specs.Prelude.{ℕ, zero, suc, ◌+◌, List, [], ◌∷◌, ◌++◌, length, reverse, true, Result, Ok, Err, ◌==◌, ◌||◌, if◌then◌else◌, encode_utf8_all}
use Rattle.text_spec.specs.declared.ahead.Ahead.{Ahead}
use Rattle.text_spec.specs.declared.ahead.Ahead.TheVariants as ahead
use Rattle.text_spec.specs.declared.fault.Flaw.{Flaw}
use Rattle.text_spec.specs.declared.fault.TextKind.TheVariants as kind
use Rattle.text_spec.specs.Reading.{Reading, ◌>>=◌, flaw, ended}
use Rattle.text_spec.specs.Character.{ampersand, less, slash, bang, question, after_blanks}
use Rattle.text_spec.specs.Reference.{reference_at}
use Rattle.text_spec.specs.Aside.{aside_at, run_at}
use Rattle.text_spec.specs.Tag.{Tag, opening_tag_at, closing_tag_at}
use Rattle.text_spec.specs.Tree.{Tree, element, Trees, none, before}

-- what begins after a `<`
abbrev pub ahead_in_tag : List ℕ → Ahead
ahead_in_tag [] = ahead.Nothing
ahead_in_tag (c ∷ cs) =
    if c == slash then ahead.ClosingTag else (if c == bang || c == question then ahead.Aside else ahead.Element)

-- what begins here
unfoldable pub ahead_of : List ℕ → Ahead
ahead_of [] = ahead.Nothing
ahead_of (c ∷ cs) = if c == less then ahead_in_tag cs else (if c == ampersand then ahead.Reference else ahead.Run)

-- a tree, the room for further elements, and what follows
pub record Grown : Type 0 where
  pub tree : Tree
  pub room : ℕ
  pub rest : List ℕ

-- what is inside an element: its own text and its elements, and then the same
pub record Inside : Type 0 where
  pub text : List ℕ
  pub children : Trees
  pub room : ℕ
  pub rest : List ℕ

-- the text without the blanks at its ends
unfoldable pub trimmed : List ℕ → List ℕ
trimmed cs = reverse (after_blanks (reverse (after_blanks cs)))

-- the text that a piece adds, which begins in this way
unfoldable pub piece_at : Ahead → List ℕ → Reading (List ℕ)
piece_at ahead.Nothing cs = Err ended
piece_at ahead.ClosingTag cs = Err ended
piece_at ahead.Element cs = Err ended
piece_at ahead.Aside cs = aside_at true cs
piece_at ahead.Reference cs = reference_at cs >>= λ r. Ok (r.0 ∷ [], r.1)
piece_at ahead.Run cs = run_at cs

-- what was read, after text and elements before it
abbrev pub after_inside : List ℕ → List Tree → Result Inside Flaw → Result Inside Flaw
after_inside text children read =
    read >>= λ i. Ok (record i { text = text ++ i.text; children = before children i.children })

-- reading an element where there is room for so many
abbrev pub ElementReading : Type 0
ElementReading = ℕ → List ℕ → Result Grown Flaw

-- a piece of text, and what follows it
abbrev pub with_piece : (ℕ → List ℕ → Result Inside Flaw) → ℕ → Reading (List ℕ) → Result Inside Flaw
with_piece more room piece = piece >>= λ p. after_inside p.0 [] (more room p.1)

-- an element, and what follows it
abbrev pub with_element : (ℕ → List ℕ → Result Inside Flaw) → Result Grown Flaw → Result Inside Flaw
with_element more child = child >>= λ e. after_inside [] (e.tree ∷ []) (more e.room e.rest)

abbrev pub inside_by : Ahead → ElementReading → (ℕ → List ℕ → Result Inside Flaw) → ℕ → List ℕ → Result Inside Flaw
inside_by ahead.Nothing child more room cs = Err ended
inside_by ahead.ClosingTag child more room cs = Ok (record { text = []; children = none; room = room; rest = cs })
inside_by ahead.Element child more room cs = with_element more (child room cs)
inside_by ahead.Aside child more room cs = with_piece more room (piece_at ahead.Aside cs)
inside_by ahead.Reference child more room cs = with_piece more room (piece_at ahead.Reference cs)
inside_by ahead.Run child more room cs = with_piece more room (piece_at ahead.Run cs)

-- content (43), up to the closing tag, in at most so many steps
unfoldable pub content_at : ElementReading → ℕ → ℕ → List ℕ → Result Inside Flaw
content_at child zero room cs = Err ended
content_at child (suc n) room cs = inside_by (ahead_of cs) child (content_at child n) room cs

-- the element of a tag
abbrev pub tree_of : Tag → List ℕ → Trees → Tree
tree_of tag text children = element (encode_utf8_all tag.name) tag.attributes (encode_utf8_all (trimmed text)) children

-- what follows the opening tag of an element
abbrev pub after_opening : ElementReading → ℕ → Tag × List ℕ → Result Grown Flaw
after_opening child room t =
    if t.0.is_empty then Ok (record { tree = tree_of t.0 [] none; room = room; rest = t.1 })
    else (content_at child (length t.1 + 1) room t.1
    >>= λ i. closing_tag_at t.0.name i.rest
    >>= λ rest. Ok (record { tree = tree_of t.0 i.text i.children; room = i.room; rest = rest }))

-- element (39), with at most so many others below it and in itself so many levels
unfoldable pub element_at : ℕ → ElementReading
element_at zero room cs = Err (flaw kind.Deep cs)
element_at (suc depth) zero cs = Err (flaw kind.Wide cs)
element_at (suc depth) (suc room) cs = opening_tag_at cs >>= λ t. after_opening (element_at depth) room t
