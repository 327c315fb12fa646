-- A definition's file is taken apart again.
use Rattle.std.proofs.Common.{◌≡◌, ◌<◌, ◌≤◌, ◌++◌, ⊎_elim, Bool, true, false, true≢false, eqb, ◌||◌, List, [], ◌∷◌, ℕ, suc, All, length, get_or, codes, decimal, refl, sym, ◌∙◌, ap, subst, arith}
use Rattle.std.specs.List.{list_any}
use Rattle.std.specs.Char.{digit_value}
use Rattle.std.specs.Fmt.{digits}
use Rattle.std.specs.Str.Parse.{AllDigits}
use Rattle.std.proofs.lemmas.Bool.Decides.{eqb_tells}
use Rattle.std.proofs.lemmas.List.{append_cancel_left, append_assoc}
use Rattle.std.proofs.lemmas.Fmt.{decimal_is_IsNumeral}
use Rattle.virt_types.specs.Limits.{most_text_bytes}
use Rattle.virt_types.specs.Name.{IsName, is_forbidden}
use Rattle.store_spec.specs.declared.entry.Entry.{Entry}
use Rattle.store_spec.specs.declared.version.Version.TheVariants as version
use Rattle.store_spec.specs.DefinitionFile.{IsEntryOf, definition_bytes, line, line_feed, three_lines, yes_or_no}
use Rattle.store_spec.specs.FileLaws.{HoldsOneEntry, OtherLengthsAreRefused, SpellsItsRow}

abbrev feeds : List ℕ → Bool
feeds l = list_any (λ b. eqb b line_feed) l

-- a line feed ends the first line
pub ends_line : (a b rest other : List ℕ) → feeds a ≡ false → feeds b ≡ false → (a ++ line_feed ∷ rest) ≡ (b ++ line_feed ∷ other) → (a ≡ b) × (rest ≡ other)
ends_line [] [] rest other none none' same = (refl, let e : rest ≡ other = cc in e)
ends_line [] (y ∷ b) rest other none none' same = let e : y ≡ 10 = sym (ap (λ (l : List ℕ). get_or l 0 0) same) in absurd (starts y b e none')
  where
    starts : (y : ℕ) (b : List ℕ) → y ≡ 10 → feeds (y ∷ b) ≡ false → ⊥
    starts y b is none = let no : true ≡ false = ap (λ (x : ℕ). feeds (x ∷ b)) (sym is) ∙ none in cc
ends_line (x ∷ a) [] rest other none none' same = let e : x ≡ 10 = ap (λ (l : List ℕ). get_or l 0 0) same in absurd (starts x a e none)
  where
    starts : (y : ℕ) (b : List ℕ) → y ≡ 10 → feeds (y ∷ b) ≡ false → ⊥
    starts y b is none = let no : true ≡ false = ap (λ (x : ℕ). feeds (x ∷ b)) (sym is) ∙ none in cc
ends_line (x ∷ a) (y ∷ b) rest other none none' same =
    let heads : x ≡ y = ap (λ (l : List ℕ). get_or l 0 0) same in
    let tails : (a ++ line_feed ∷ rest) ≡ (b ++ line_feed ∷ other) = cc in
    let more = ends_line a b rest other (second (eqb x 10) (feeds a) none) (second (eqb y 10) (feeds b) none') tails in
    ((λ i. heads i ∷ more.0 i), more.1)
  where
    second : (p q : Bool) → (p || q) ≡ false → q ≡ false
    second true q is = cc
    second false q is = is

or_false : (a b : Bool) → a ≡ false → b ≡ false → (a || b) ≡ false
or_false true b x y = cc
or_false false b x y = y

forbidden_feed : (x : ℕ) → is_forbidden x ≡ false → x ≡ 10 → ⊥
forbidden_feed x allowed is = let no : is_forbidden 10 ≡ false = subst (λ (y : ℕ). is_forbidden y ≡ false) is allowed in true≢false no

no_feed : (x : ℕ) → (x ≡ 10 → ⊥) → eqb x 10 ≡ false
no_feed x differs = ⊎_elim (λ same. absurd (differs same.1)) (λ other. other.0) (eqb_tells x 10)

pub name_feeds : (name : List ℕ) → All (λ b. is_forbidden b ≡ false) name → feeds name ≡ false
name_feeds [] allowed = refl
name_feeds (x ∷ xs) allowed = or_false (eqb x 10) (feeds xs)
    (no_feed x (forbidden_feed x (allowed 0 0 (omega arith))))
    (name_feeds xs (λ k d lt. allowed (suc k) d (omega (arith, lt))))

digit_feed : (x : ℕ) → digit_value x < 10 → x ≡ 10 → ⊥
digit_feed x low is = let no : digit_value 10 < 10 = subst (λ (y : ℕ). digit_value y < 10) is low in omega (arith, no)

digits_feed : (ds : List ℕ) → AllDigits 10 ds → feeds ds ≡ false
digits_feed [] digits = refl
digits_feed (x ∷ xs) digits = or_false (eqb x 10) (feeds xs) (no_feed x (digit_feed x digits.0)) (digits_feed xs digits.1)

pub length_feeds : (n : ℕ) → n ≤ most_text_bytes → feeds (decimal n) ≡ false
length_feeds n le = digits_feed (decimal n) (decimal_is_IsNumeral n (omega (arith, le))).0.1

-- a line that names a value, and what comes after it
pub labelled : (label value rest : List ℕ) → line (label ++ value) ++ rest ≡ label ++ (value ++ line_feed ∷ rest)
labelled label value rest = append_assoc (label ++ value) (line_feed ∷ []) rest ∙ append_assoc label value (line_feed ∷ rest)

-- the first line, and what comes after it
pub flagged : (label flag middle name rest : List ℕ) → line (label ++ flag ++ middle ++ name) ++ rest ≡ label ++ (flag ++ (middle ++ (name ++ line_feed ∷ rest)))
flagged label flag middle name rest =
    append_assoc (label ++ flag ++ middle ++ name) (line_feed ∷ []) rest
    ∙ append_assoc (label ++ flag ++ middle) name (line_feed ∷ rest)
    ∙ append_assoc (label ++ flag) middle (name ++ line_feed ∷ rest)
    ∙ append_assoc label flag (middle ++ (name ++ line_feed ∷ rest))

-- what comes after the first line of a file of version 2
abbrev rest_of : List ℕ → List ℕ → List ℕ → List ℕ
rest_of title digits text = codes "title=" ++ (title ++ line_feed ∷ (codes "length=" ++ (digits ++ line_feed ∷ text)))

abbrev flag_and_name : Bool → List ℕ → List ℕ → List ℕ
flag_and_name autostart name rest = yes_or_no autostart ++ (codes " name=" ++ (name ++ line_feed ∷ rest))

bytes_one : (e : Entry) → definition_bytes version.One e ≡ codes "def 1 autostart=" ++ flag_and_name e.autostart e.name e.text
unfolding definition_bytes
bytes_one e = flagged (codes "def 1 autostart=") (yes_or_no e.autostart) (codes " name=") e.name e.text

bytes_lines : (autostart : Bool) (name title digits text : List ℕ)
    → three_lines autostart name title digits ++ text ≡ codes "def 2 autostart=" ++ flag_and_name autostart name (rest_of title digits text)
bytes_lines autostart name title digits text =
    let first = line (codes "def 2 autostart=" ++ yes_or_no autostart ++ codes " name=" ++ name) in
    let second = line (codes "title=" ++ title) in
    let third = line (codes "length=" ++ digits) in
    append_assoc (first ++ second) third text
    ∙ append_assoc first second (third ++ text)
    ∙ ap (λ (l : List ℕ). first ++ (second ++ l)) (labelled (codes "length=") digits text)
    ∙ ap (λ (l : List ℕ). first ++ l) (labelled (codes "title=") title (codes "length=" ++ (digits ++ line_feed ∷ text)))
    ∙ flagged (codes "def 2 autostart=") (yes_or_no autostart) (codes " name=") name (rest_of title digits text)

bytes_two : (e : Entry) → definition_bytes version.Two e ≡ codes "def 2 autostart=" ++ flag_and_name e.autostart e.name (rest_of e.title (decimal (length e.text)) e.text)
unfolding definition_bytes
bytes_two e = bytes_lines e.autostart e.name e.title (decimal (length e.text)) e.text

-- a flag is read one way
pub same_flag : (a b : Bool) (rest other : List ℕ) → yes_or_no a ++ (codes " name=" ++ rest) ≡ yes_or_no b ++ (codes " name=" ++ other) → (a ≡ b) × (rest ≡ other)
same_flag true true rest other same = (refl, append_cancel_left (codes "yes name=") rest other same)
same_flag true false rest other same = let e : 121 ≡ 110 = ap (λ (l : List ℕ). get_or l 0 0) same in absurd (omega (arith, e))
same_flag false true rest other same = let e : 110 ≡ 121 = ap (λ (l : List ℕ). get_or l 0 0) same in absurd (omega (arith, e))
same_flag false false rest other same = (refl, append_cancel_left (codes "no name=") rest other same)

-- the first lines are read one way
same_first : (a b : Bool) (name name' rest rest' : List ℕ) → IsName name → IsName name' → flag_and_name a name rest ≡ flag_and_name b name' rest' → (a ≡ b) × (name ≡ name') × (rest ≡ rest')
same_first a b name name' rest rest' is_name is_name' same =
    let flags = same_flag a b (name ++ line_feed ∷ rest) (name' ++ line_feed ∷ rest') same in
    let names = ends_line name name' rest rest' (name_feeds name is_name.allowed) (name_feeds name' is_name'.allowed) flags.1 in
    (flags.0, names.0, names.1)

-- and so is what comes after them
same_rest : (title title' digits digits' text text' : List ℕ) → feeds title ≡ false → feeds title' ≡ false → feeds digits ≡ false → feeds digits' ≡ false
    → rest_of title digits text ≡ rest_of title' digits' text' → (title ≡ title') × (digits ≡ digits') × (text ≡ text')
same_rest title title' digits digits' text text' a a' b b' same =
    let second = codes "length=" ++ (digits ++ line_feed ∷ text) in
    let second' = codes "length=" ++ (digits' ++ line_feed ∷ text') in
    let titles = ends_line title title' second second' a a' (append_cancel_left (codes "title=") (title ++ line_feed ∷ second) (title' ++ line_feed ∷ second') same) in
    let texts = ends_line digits digits' text text' b b' (append_cancel_left (codes "length=") (digits ++ line_feed ∷ text) (digits' ++ line_feed ∷ text') titles.1) in
    (titles.0, texts.0, texts.1)

same_entry : (e f : Entry) → e.autostart ≡ f.autostart → e.name ≡ f.name → e.title ≡ f.title → e.text ≡ f.text → e ≡ f
same_entry e f flags names titles texts = λ i. record { name = names i; autostart = flags i; title = titles i; text = texts i }

one_way_one : (e f : Entry) → IsEntryOf version.One e → IsEntryOf version.One f → definition_bytes version.One e ≡ definition_bytes version.One f → e ≡ f
one_way_one e f a b same =
    let first = same_first e.autostart f.autostart e.name f.name e.text f.text a.name b.name
    (append_cancel_left (codes "def 1 autostart=") (flag_and_name e.autostart e.name e.text) (flag_and_name f.autostart f.name f.text) (sym (bytes_one e) ∙ same ∙ bytes_one f)) in
    same_entry e f first.0 first.1 (a.title ∙ sym b.title) first.2

one_way_two : (e f : Entry) → IsEntryOf version.Two e → IsEntryOf version.Two f → definition_bytes version.Two e ≡ definition_bytes version.Two f → e ≡ f
one_way_two e f a b same =
    let rest = rest_of e.title (decimal (length e.text)) e.text in
    let rest' = rest_of f.title (decimal (length f.text)) f.text in
    let first = same_first e.autostart f.autostart e.name f.name rest rest' a.name b.name
    (append_cancel_left (codes "def 2 autostart=") (flag_and_name e.autostart e.name rest) (flag_and_name f.autostart f.name rest') (sym (bytes_two e) ∙ same ∙ bytes_two f)) in
    let more = same_rest e.title f.title (decimal (length e.text)) (decimal (length f.text)) e.text f.text a.title b.title (length_feeds (length e.text) a.text) (length_feeds (length f.text) b.text) first.2 in
    same_entry e f first.0 first.1 more.0 more.2

-- the versions differ in one byte
one_is_not_two : (e : Entry) (rest : List ℕ) → definition_bytes version.One e ≡ codes "def 2 autostart=" ++ rest → ⊥
one_is_not_two e rest same =
    let never : 49 ≡ 50 = ap (λ (l : List ℕ). get_or l 4 0) (sym (bytes_one e) ∙ same) in
    omega (arith, never)

versions_apart : (e f : Entry) → definition_bytes version.One e ≡ definition_bytes version.Two f → ⊥
versions_apart e f same = one_is_not_two e (flag_and_name f.autostart f.name (rest_of f.title (decimal (length f.text)) f.text)) (same ∙ bytes_two f)

pub holds_one_entry : HoldsOneEntry
holds_one_entry version.One version.One e f bytes a b = (refl, one_way_one e f a.entry b.entry (sym a.spelling ∙ b.spelling))
holds_one_entry version.One version.Two e f bytes a b = absurd (versions_apart e f (sym a.spelling ∙ b.spelling))
holds_one_entry version.Two version.One e f bytes a b = absurd (versions_apart f e (sym b.spelling ∙ a.spelling))
holds_one_entry version.Two version.Two e f bytes a b = (refl, one_way_two e f a.entry b.entry (sym a.spelling ∙ b.spelling))

-- the digits of a file are those of its text's length
told_length : (autostart : Bool) (name title digits text : List ℕ) (e : Entry) → IsName name → feeds title ≡ false → feeds digits ≡ false → IsEntryOf version.Two e
    → three_lines autostart name title digits ++ text ≡ definition_bytes version.Two e → digits ≡ decimal (length text)
told_length autostart name title digits text e is_name one_line one_line' good same =
    let rest = rest_of title digits text in
    let rest' = rest_of e.title (decimal (length e.text)) e.text in
    let first = same_first autostart e.autostart name e.name rest rest' is_name good.name
    (append_cancel_left (codes "def 2 autostart=") (flag_and_name autostart name rest) (flag_and_name e.autostart e.name rest') (sym (bytes_lines autostart name title digits text) ∙ same ∙ bytes_two e)) in
    let more = same_rest title e.title digits (decimal (length e.text)) text e.text one_line good.title one_line' (length_feeds (length e.text) good.text) first.2 in
    more.1 ∙ ap (λ (t : List ℕ). decimal (length t)) (sym more.2)

pub other_lengths_are_refused : OtherLengthsAreRefused
other_lengths_are_refused autostart name title digits text is_name one_line one_line' other version.One e is =
    one_is_not_two e (flag_and_name autostart name (rest_of title digits text)) (sym is.spelling ∙ bytes_lines autostart name title digits text)
other_lengths_are_refused autostart name title digits text is_name one_line one_line' other version.Two e is =
    other (told_length autostart name title digits text e is_name one_line one_line' is.entry is.spelling)

pub spells_its_row : SpellsItsRow
unfolding definition_bytes digits
spells_its_row = refl
