-- What is between tags besides text, of XML 1.0 (fifth edition): comments (15), processing
-- instructions (16, 17) and sections (18 to 21). A document type declaration (28) is refused.
use Rattle.std.specs.Prelude.{ℕ, ◌+◌, ◌-◌, List, [], ◌∷◌, length, take, drop, Bool, true, false, ◌&&◌, Result, Ok, Err, ◌==◌, if◌then◌else◌, codes}
use Rattle.std.specs.List.{prefix_len}
use Rattle.std.specs.Char.{to_ascii_lowercase}
use Rattle.text_spec.specs.declared.fault.Flaw.{Flaw}
use Rattle.text_spec.specs.declared.fault.TextKind.TheVariants as kind
use Rattle.text_spec.specs.Reading.{Reading, ◌>>=◌, flaw, ended, expect}
use Rattle.text_spec.specs.Character.{hyphen, question, greater, open_bracket, close_bracket, is_blank, is_char, is_run_char}
use Rattle.text_spec.specs.Name.{name_at}

-- Comment (15), after its `<!--`: two hyphens occur only before the `>` that ends it
unfoldable pub comment_at : Flaw → Bool → List ℕ → Result (List ℕ) Flaw
comment_at told hyphened [] = Err ended
comment_at told hyphened (c ∷ cs) =
    if hyphened && (c == hyphen) then expect told (greater ∷ []) cs
    else (if is_char c then comment_at told (c == hyphen) cs else Err told)

-- PI (16), from after its target to its `?>`
unfoldable pub instruction_at : Flaw → Bool → List ℕ → Result (List ℕ) Flaw
instruction_at told questioned [] = Err ended
instruction_at told questioned (c ∷ cs) =
    if questioned && (c == greater) then Ok cs
    else (if is_char c then instruction_at told (c == question) cs else Err told)

-- the target `xml`, in any case, is kept for the declaration
abbrev pub is_reserved : List ℕ → Bool
is_reserved (x ∷ m ∷ l ∷ []) =
    (to_ascii_lowercase x == 120) && ((to_ascii_lowercase m == 109) && (to_ascii_lowercase l == 108))
is_reserved _ = false

-- after the target comes a blank or the end
abbrev pub after_target : Flaw → List ℕ → Result (List ℕ) Flaw
after_target told [] = Err ended
after_target told (c ∷ cs) =
    if c == question then expect told (greater ∷ []) cs
    else (if is_blank c then instruction_at told false cs else Err told)

-- PI (16), after its `<?`
unfoldable pub targeted : Flaw → List ℕ → Result (List ℕ) Flaw
targeted told cs = name_at told cs >>= λ t. if is_reserved t.0 then Err told else after_target told t.1

-- how many closing brackets were passed just before, up to two
abbrev pub brackets_after : ℕ → ℕ → ℕ
brackets_after brackets c = if c == close_bracket then (if brackets == 0 then 1 else 2) else 0

-- CDSect (18), after its `<![CDATA[`: what follows the `]]>`
unfoldable pub section_at : Flaw → ℕ → List ℕ → Result (List ℕ) Flaw
section_at told brackets [] = Err ended
section_at told brackets (c ∷ cs) =
    if (c == greater) && (brackets == 2) then Ok cs
    else (if is_char c then section_at told (brackets_after brackets c) cs else Err told)

-- the characters before the `]]>`
abbrev pub sectioned : List ℕ → List ℕ → Reading (List ℕ)
sectioned cs rest = Ok (take (length cs - (length rest + 3)) cs, rest)

-- an aside without text
abbrev pub without_text : Result (List ℕ) Flaw → Reading (List ℕ)
without_text read = read >>= λ rest. Ok ([], rest)

-- Comment (15), after its `<!-`
unfoldable pub whole_comment_at : Flaw → List ℕ → Reading (List ℕ)
whole_comment_at told cs = without_text (expect told (hyphen ∷ []) cs >>= λ rest. comment_at told false rest)

-- doctypedecl (28), after its `<!D`
unfoldable pub doctype_at : Flaw → Flaw → List ℕ → Reading (List ℕ)
doctype_at told doctype cs = expect told (codes "OCTYPE") cs >>= λ _. Err doctype

-- CDSect (18), after its `<![`
unfoldable pub whole_section_at : Flaw → List ℕ → Reading (List ℕ)
whole_section_at told cs =
    expect told (codes "CDATA[") cs >>= λ content. section_at told 0 content >>= λ rest. sectioned content rest

-- after `<!`: a section is allowed only inside an element
unfoldable pub after_bang : Bool → List ℕ → List ℕ → Reading (List ℕ)
after_bang inside start [] = Err ended
after_bang inside start (c ∷ cs) =
    if c == hyphen then whole_comment_at (flaw kind.Tag start) cs
    else (if c == 68 then doctype_at (flaw kind.Tag start) (flaw kind.Doctype start) cs
    else (if inside && (c == open_bracket) then whole_section_at (flaw kind.Tag start) cs
    else Err (flaw kind.Tag start)))

-- after the `<` of an aside
abbrev pub after_less : Bool → List ℕ → List ℕ → Reading (List ℕ)
after_less inside start [] = Err ended
after_less inside start (c ∷ cs) =
    if c == question then without_text (targeted (flaw kind.Tag start) cs) else after_bang inside start cs

-- the text that a comment, an instruction or a section adds: the characters of a section, otherwise nothing
unfoldable pub aside_at : Bool → List ℕ → Reading (List ℕ)
aside_at inside [] = Err ended
aside_at inside (c ∷ cs) = after_less inside (c ∷ cs) cs

-- `]]>` occurs in these characters, of which the ones just before are so many closing brackets
unfoldable pub ends_section : ℕ → List ℕ → Bool
ends_section brackets [] = false
ends_section brackets (c ∷ cs) =
    if (c == greater) && (brackets == 2) then true else ends_section (brackets_after brackets c) cs

-- a run of text ends before markup, or with the text
abbrev pub run_then : Flaw → List ℕ → List ℕ → Reading (List ℕ)
run_then told run [] = Ok (run, [])
run_then told run (c ∷ cs) = if is_char c then Ok (run, c ∷ cs) else Err told

-- CharData (14): without `]]>`
unfoldable pub run_at : List ℕ → Reading (List ℕ)
run_at cs =
    let n = prefix_len is_run_char cs in
    if ends_section 0 (take n cs) then Err (flaw kind.Tag cs) else run_then (flaw kind.Tag cs) (take n cs) (drop n cs)
