-- The XML declaration of XML 1.0 (fifth edition), productions 23 to 26, 32 and 80: version 1.0,
-- encoding UTF-8 in any case or none, and standalone yes, no or none.
use Rattle.std.specs.Prelude.{ℕ, List, [], ◌∷◌, Bool, false, ◌&&◌, ◌||◌, Result, Ok, Err, ◌==◌, if◌then◌else◌, codes}
use Rattle.std.specs.Char.{to_ascii_lowercase}
use Rattle.text_spec.specs.declared.fault.Flaw.{Flaw}
use Rattle.text_spec.specs.declared.fault.TextKind.TheVariants as kind
use Rattle.text_spec.specs.Reading.{Reading, ◌>>=◌, flaw, ended, expect}
use Rattle.text_spec.specs.Character.{equals, quote, apostrophe, starts_blank, after_blanks}

-- as `expect`, for small letters in either case
unfoldable pub expect_in_any_case : Flaw → List ℕ → List ℕ → Result (List ℕ) Flaw
expect_in_any_case told [] cs = Ok cs
expect_in_any_case told (w ∷ ws) [] = Err ended
expect_in_any_case told (w ∷ ws) (c ∷ cs) =
    if to_ascii_lowercase c == w then expect_in_any_case told ws cs else Err told

-- Eq (25), and the blanks around it
unfoldable pub equals_at : Flaw → List ℕ → Result (List ℕ) Flaw
equals_at told cs = expect told (equals ∷ []) (after_blanks cs) >>= λ rest. Ok (after_blanks rest)

-- a quote of either kind
abbrev pub quote_at : Flaw → List ℕ → Reading ℕ
quote_at told [] = Err ended
quote_at told (q ∷ cs) = if q == quote || q == apostrophe then Ok (q, cs) else Err told

-- a name and what follows its equals sign
unfoldable pub named_at : Flaw → List ℕ → List ℕ → Result (List ℕ) Flaw
named_at told name cs = expect told name cs >>= λ rest. equals_at told rest

-- VersionInfo (24)
unfoldable pub version_at : Flaw → List ℕ → Result (List ℕ) Flaw
version_at told cs =
    named_at told (codes "version") cs
    >>= λ value. quote_at told value
    >>= λ q. expect told (codes "1.0") q.1
    >>= λ rest. expect told (q.0 ∷ []) rest

-- EncodingDecl (80)
unfoldable pub encoding_at : Flaw → List ℕ → Result (List ℕ) Flaw
encoding_at told cs =
    named_at told (codes "encoding") cs
    >>= λ value. quote_at told value
    >>= λ q. expect_in_any_case told (codes "utf-8") q.1
    >>= λ rest. expect told (q.0 ∷ []) rest

abbrev pub yes_or_no : Flaw → List ℕ → Result (List ℕ) Flaw
yes_or_no told [] = Err ended
yes_or_no told (c ∷ cs) = if c == 121 then expect told (codes "es") cs else expect told (codes "no") (c ∷ cs)

-- SDDecl (32)
unfoldable pub standalone_at : Flaw → List ℕ → Result (List ℕ) Flaw
standalone_at told cs =
    named_at told (codes "standalone") cs
    >>= λ value. quote_at told value
    >>= λ q. yes_or_no told q.1
    >>= λ rest. expect told (q.0 ∷ []) rest

-- the letter is at the front
abbrev pub begins_with : ℕ → List ℕ → Bool
begins_with letter [] = false
begins_with letter (c ∷ cs) = c == letter

-- after a blank the encoding may follow, and then the standalone declaration
unfoldable pub after_encoding : Flaw → List ℕ → Result (List ℕ) Flaw
after_encoding told cs =
    if starts_blank cs && begins_with 101 (after_blanks cs) then encoding_at told (after_blanks cs) else Ok cs

unfoldable pub after_standalone : Flaw → List ℕ → Result (List ℕ) Flaw
after_standalone told cs =
    if starts_blank cs && begins_with 115 (after_blanks cs) then standalone_at told (after_blanks cs) else Ok cs

-- XMLDecl (23), after its `<?xml`
unfoldable pub declaration_at : Flaw → List ℕ → Result (List ℕ) Flaw
declaration_at told cs =
    version_at told (after_blanks cs)
    >>= λ a. after_encoding told a
    >>= λ b. after_standalone told b
    >>= λ rest. expect told (codes "?>") (after_blanks rest)

-- a declaration begins, by `<?xml` and a blank
abbrev pub if_declared : List ℕ → Result (List ℕ) Flaw → Result (List ℕ) Flaw
if_declared cs (Ok rest) = if starts_blank rest then declaration_at (flaw kind.Tag cs) rest else Ok cs
if_declared cs (Err f) = Ok cs

-- what follows the declaration, if there is one
unfoldable pub after_declaration : List ℕ → Result (List ℕ) Flaw
after_declaration cs = if_declared cs (expect ended (codes "<?xml") cs)
