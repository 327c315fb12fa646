-- Tags of XML 1.0 (fifth edition), productions 10, 25 and 40 to 44. A fault in a tag is reported at
-- its first byte, but for a reference, which is reported at its own.
use Rattle.std.specs.Prelude.{ℕ, zero, suc, ◌+◌, List, [], ◌∷◌, ◌++◌, length, drop, Bool, true, false, ◌&&◌, not, Option, Some, None, Result, Ok, Err, ◌==◌, if◌then◌else◌, encode_utf8_all}
use Rattle.std.specs.List.{list_any}
use Rattle.std.specs.Str.{bytes_eq}
use Rattle.text_spec.specs.declared.fault.Flaw.{Flaw}
use Rattle.text_spec.specs.declared.fault.TextKind.TheVariants as kind
use Rattle.text_spec.specs.Reading.{Reading, ◌>>=◌, flaw, ended, expect}
use Rattle.text_spec.specs.Character.{ampersand, less, greater, slash, is_char, starts_blank, after_blanks}
use Rattle.text_spec.specs.Name.{name_at}
use Rattle.text_spec.specs.Reference.{reference_at}
use Rattle.text_spec.specs.Declaration.{equals_at, quote_at}
use Rattle.text_spec.specs.declared.pair.Pair.{Pair}

-- what was read, after what was read before
abbrev pub behind : {A : Type 0} → List A → Reading (List A) → Reading (List A)
behind front read = read >>= λ v. Ok (front ++ v.0, v.1)

-- a character of a value: itself, or by a reference
unfoldable pub value_char_at : Flaw → List ℕ → Reading ℕ
value_char_at told [] = Err ended
value_char_at told (c ∷ cs) =
    if c == ampersand then reference_at (c ∷ cs)
    else (if is_char c && not (c == less) then Ok (c, cs) else Err told)

-- AttValue (10), after its quote, in at most so many steps
unfoldable pub value_at : ℕ → Flaw → ℕ → List ℕ → Reading (List ℕ)
value_at zero told q cs = Err ended
value_at (suc n) told q [] = Err ended
value_at (suc n) told q (c ∷ cs) =
    if c == q then Ok ([], cs)
    else (value_char_at told (c ∷ cs) >>= λ r. behind (r.0 ∷ []) (value_at n told q r.1))

-- AttValue (10)
unfoldable pub quoted_at : Flaw → List ℕ → Reading (List ℕ)
quoted_at told cs = quote_at told cs >>= λ q. value_at (length q.1) told q.0 q.1

-- one of the names is this one
abbrev pub is_among : List ℕ → List (List ℕ) → Bool
is_among name names = list_any (λ other. bytes_eq other name) names

-- the value of the attribute of this name
unfoldable pub valued_at : Flaw → List ℕ → List ℕ → Reading (List ℕ × List ℕ)
valued_at told name cs =
    equals_at told cs >>= λ after. quoted_at told after >>= λ value. Ok ((name, value.0), value.1)

-- Attribute (41), as name and value, where none of these names came before
unfoldable pub attribute_at : Flaw → List (List ℕ) → List ℕ → Reading (List ℕ × List ℕ)
attribute_at told names cs =
    name_at told cs
    >>= λ name. if is_among name.0 names then Err told else valued_at told name.0 name.1

-- the bytes of both
abbrev pub attribute_of : List ℕ × List ℕ → Pair
attribute_of pair = record { name = encode_utf8_all pair.0; value = encode_utf8_all pair.1 }

-- the attributes of a tag, and whether it ends by `/>`
abbrev pub Attributes : Type 0
Attributes = List Pair × Bool

-- the same, with these attributes before them
abbrev pub after_attributes : List Pair → Reading Attributes → Reading Attributes
after_attributes found read = read >>= λ more. Ok ((found ++ more.0.0, more.0.1), more.1)

-- the end of a tag, where it comes next: whether it is `/>`, and what follows it
unfoldable pub tag_end_at : Flaw → List ℕ → Result (Option (Bool × List ℕ)) Flaw
tag_end_at told [] = Err ended
tag_end_at told (c ∷ cs) =
    if c == greater then Ok (Some (false, cs))
    else (if c == slash then (expect told (greater ∷ []) cs >>= λ rest. Ok (Some (true, rest))) else Ok None)

-- how a tag that begins at start goes on: by its end, or after a blank by an attribute and so on
abbrev pub in_tag : (List (List ℕ) → List ℕ → Reading Attributes) → List ℕ → List (List ℕ) → Bool → List ℕ
    → Option (Bool × List ℕ) → Reading Attributes
in_tag more start names blank cs (Some end) = Ok (([], end.0), end.1)
in_tag more start names blank cs None =
    if blank then (attribute_at (flaw kind.Attribute start) names cs
    >>= λ a. after_attributes (attribute_of a.0 ∷ []) (more (a.0.0 ∷ names) a.1))
    else Err (flaw kind.Tag start)

-- (S Attribute)* S? and the end of the tag, in at most so many steps
unfoldable pub attributes_at : ℕ → List ℕ → List (List ℕ) → List ℕ → Reading Attributes
attributes_at zero start names cs = Err ended
attributes_at (suc n) start names cs =
    tag_end_at (flaw kind.Tag start) (after_blanks cs)
    >>= λ end. in_tag (attributes_at n start) start names (starts_blank cs) (after_blanks cs) end

-- STag (40) or EmptyElemTag (44): its name, and what else it says
pub record Tag : Type 0 where
  pub name : List ℕ
  pub attributes : List Pair
  pub is_empty : Bool

unfoldable pub opening_tag_at : List ℕ → Reading Tag
opening_tag_at start =
    name_at (flaw kind.Tag start) (drop 1 start)
    >>= λ name. attributes_at (length name.1 + 1) start [] name.1
    >>= λ found. Ok (record { name = name.0; attributes = found.0.0; is_empty = found.0.1 }, found.1)

-- ETag (42) of the element of this name
unfoldable pub closing_tag_at : List ℕ → List ℕ → Result (List ℕ) Flaw
closing_tag_at name start =
    expect (flaw kind.Tag start) name (drop 2 start)
    >>= λ rest. expect (flaw kind.Tag start) (greater ∷ []) (after_blanks rest)
