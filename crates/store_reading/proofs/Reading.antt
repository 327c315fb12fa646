-- A definition's file is read.
use Rattle.std.proofs.Common.{◌≡◌, ◌≤◌, ◌<◌, ◌++◌, ◌||◌, ◌==◌, nat_lt, not, Bool, true, false, List, [], ◌∷◌, ℕ, Option, None, Some, Result, Ok, Err, IfOk, IsUtf8, codes, decimal, length, refl, sym, ◌∙◌, ap, subst, append_assoc, arith}
use Rattle.std.proofs.lemmas.List.{append_cancel_left}
use Rattle.std.proofs.lemmas.List.Sums.{prefix_len_is}
use Rattle.virt_types.specs.Limits.{most_text_bytes}
use Rattle.virt_types.specs.Below.types_base.declared.memory.OrNoMemory.{OrNoMemory}
use Rattle.virt_types.specs.Below.types_base.declared.memory.OrNoMemory.TheVariants as or
use Rattle.virt_types.specs.Below.types_base.declared.name.BadName.{BadName}
use Rattle.virt_types.specs.Name.{IsName, IsRefused, bad_place, first_forbidden, is_dots, is_forbidden}
use Rattle.virt_types.proofs.Names.{place_none}
use Rattle.store_spec.specs.declared.entry.Entry.{Entry}
use Rattle.store_spec.specs.declared.version.Version.{Version}
use Rattle.store_spec.specs.declared.version.Version.TheVariants as version
use Rattle.store_spec.specs.DefinitionFile.{IsDefinitionFile, IsEntryOf, definition_bytes, first_line, has_feed, line, line_feed, yes_or_no}
use Rattle.store_spec.proofs.Spelling.{ends_line, flagged, labelled, length_feeds, name_feeds, same_flag}
use Rattle.store_reading.specs.declared.definition.ReadDefinition.{ReadDefinition}
use Rattle.store_reading.specs.declared.lines.FirstLine.{FirstLine}
use Rattle.store_reading.specs.Definition.{AreParts, IsMadeOf, IsReadAs, ReadsAfter, ReadsAs, after_first}
use Rattle.store_reading.specs.Lines.{HasFirst, HasLine}

pub map_ok : {A E : Type 0} {P Q : A → Type 0} (r : Result A E) → ((x : A) → P x → Q x) → IfOk r P → IfOk r Q
map_ok (Ok x) f p = f x p
map_ok (Err e) f p = tt

-- a name has no byte that is wrong
all_pass : (bs : List ℕ) → IsName bs → first_forbidden bs ≡ length bs
all_pass bs is = prefix_len_is (λ x. not (is_forbidden x)) bs (length bs) 0 (omega arith) (λ k lt. ap (λ v. not v) (is.allowed k 0 lt)) (λ lt. absurd (omega (arith, lt)))

whole_good : (n : ℕ) (dots : Bool) → 1 ≤ n → n ≤ 128 → dots ≡ false → (n == 0 || nat_lt 128 n || dots) ≡ false
whole_good n dots least most off = grind (arith, off, least, most)

no_place : (bs : List ℕ) → IsName bs → bad_place bs ≡ None
no_place bs is = place_none bs is.utf8 (all_pass bs is) (whole_good (length bs) (is_dots bs) is.least is.most is.no_dots)

some_none : (n : ℕ) → Some n ≡ None → ⊥
some_none n is = cc

pub not_name : (bs : List ℕ) (n : ℕ) → bad_place bs ≡ Some n → IsName bs → ⊥
not_name bs n bad is = some_none n (sym bad ∙ no_place bs is)

pub refused_none : (bs : List ℕ) (e : OrNoMemory BadName) (bad : BadName) → e ≡ or.Fault bad → IsRefused bs e → IsName bs → ⊥
refused_none bs e bad is refused = not_name bs bad.at (subst (λ (x : OrNoMemory BadName). IsRefused bs x) is refused)

-- first lines are read one way, and so are later ones
same_first : (front : List ℕ) (a b : Bool) (name name' rest rest' : List ℕ) → has_feed name ≡ false → has_feed name' ≡ false
    → first_line front a name ++ rest ≡ first_line front b name' ++ rest' → (a ≡ b) × (name ≡ name') × (rest ≡ rest')
same_first front a b name name' rest rest' one one' same =
    let tails = append_cancel_left front (yes_or_no a ++ (codes " name=" ++ (name ++ line_feed ∷ rest))) (yes_or_no b ++ (codes " name=" ++ (name' ++ line_feed ∷ rest')))
    (sym (flagged front (yes_or_no a) (codes " name=") name rest) ∙ same ∙ flagged front (yes_or_no b) (codes " name=") name' rest') in
    let flags = same_flag a b (name ++ line_feed ∷ rest) (name' ++ line_feed ∷ rest') tails in
    let names = ends_line name name' rest rest' one one' flags.1 in
    (flags.0, names.0, names.1)

same_line : (label value value' rest rest' : List ℕ) → has_feed value ≡ false → has_feed value' ≡ false
    → line (label ++ value) ++ rest ≡ line (label ++ value') ++ rest' → (value ≡ value') × (rest ≡ rest')
same_line label value value' rest rest' one one' same = ends_line value value' rest rest' one one'
    (append_cancel_left label (value ++ line_feed ∷ rest) (value' ++ line_feed ∷ rest') (sym (labelled label value rest) ∙ same ∙ labelled label value' rest'))

-- the bytes of a file, from its first line on
one_lines : (e : Entry) → definition_bytes version.One e ≡ first_line (codes "def 1 autostart=") e.autostart e.name ++ e.text
unfolding definition_bytes
one_lines e = refl

two_lines : (e : Entry) → definition_bytes version.Two e ≡ first_line (codes "def 2 autostart=") e.autostart e.name ++ after_first e
unfolding definition_bytes
two_lines e =
    let first = first_line (codes "def 2 autostart=") e.autostart e.name in
    let title = line (codes "title=" ++ e.title) in
    let size = line (codes "length=" ++ decimal (length e.text)) in
    append_assoc (first ++ title) size e.text ∙ append_assoc first title (size ++ e.text)

pub one_none : (bytes : List ℕ) → HasFirst (codes "def 1 autostart=") bytes None → ReadsAs version.One bytes None
one_none bytes never e is = never e.autostart e.name e.text (name_feeds e.name is.entry.name.allowed) (is.spelling ∙ one_lines e)

pub one_of : (bytes : List ℕ) (f : FirstLine) → HasFirst (codes "def 1 autostart=") bytes (Some f) → (r : Option Entry) → IsMadeOf f.autostart f.name.now [] f.rest.now r → ReadsAs version.One bytes r
one_of bytes f first None made = λ e is.
    let same = same_first (codes "def 1 autostart=") f.autostart e.autostart f.name.now e.name f.rest.now e.text first.1 (name_feeds e.name is.entry.name.allowed) (sym first.0 ∙ is.spelling ∙ one_lines e) in
    made (record {
      is_name = subst IsName (sym same.1) is.entry.name;
      is_title = subst IsUtf8 is.entry.title is.entry.title_utf8;
      is_short = subst (λ (t : List ℕ). length t ≤ most_text_bytes) (sym same.2) is.entry.text;
      is_text = subst IsUtf8 (sym same.2) is.entry.text_utf8;
    })
one_of bytes f first (Some e) made = record {
  spelling = first.0 ∙ sym (one_lines (record { name = f.name.now; autostart = f.autostart; title = []; text = f.rest.now })) ∙ ap (λ (x : Entry). definition_bytes version.One x) (sym made.0);
  entry = subst (λ (x : Entry). IsEntryOf version.One x) (sym made.0) (record { name = made.1.is_name; title = refl; title_utf8 = made.1.is_title; text = made.1.is_short; text_utf8 = made.1.is_text });
}

pub two_none : (bytes : List ℕ) → HasFirst (codes "def 2 autostart=") bytes None → ReadsAs version.Two bytes None
two_none bytes never e is = never e.autostart e.name (after_first e) (name_feeds e.name is.entry.name.allowed) (is.spelling ∙ two_lines e)

pub two_of : (bytes : List ℕ) (f : FirstLine) → HasFirst (codes "def 2 autostart=") bytes (Some f) → (r : Option Entry) → ReadsAfter f.autostart f.name.now f.rest.now r → ReadsAs version.Two bytes r
two_of bytes f first None never = λ e is.
    let same = same_first (codes "def 2 autostart=") f.autostart e.autostart f.name.now e.name f.rest.now (after_first e) first.1 (name_feeds e.name is.entry.name.allowed) (sym first.0 ∙ is.spelling ∙ two_lines e) in
    never e (sym same.0) (sym same.1) is.entry same.2
two_of bytes f first (Some e) (flags, names, good, rest) = record {
  spelling = first.0 ∙ (λ i. first_line (codes "def 2 autostart=") (sym flags i) (sym names i) ++ rest i) ∙ sym (two_lines e);
  entry = good;
}

pub title_none : (a : Bool) (name rest : List ℕ) → HasLine (codes "title=") rest None → ReadsAfter a name rest None
title_none a name rest never e flags names good is = never e.title (line (codes "length=" ++ decimal (length e.text)) ++ e.text) good.title is

-- the line with the title was read
same_title : (rest title left : List ℕ) (e : Entry) → rest ≡ line (codes "title=" ++ title) ++ left → has_feed title ≡ false → IsEntryOf version.Two e → rest ≡ after_first e
    → (title ≡ e.title) × (left ≡ line (codes "length=" ++ decimal (length e.text)) ++ e.text)
same_title rest title left e whole one good is =
    same_line (codes "title=") title e.title left (line (codes "length=" ++ decimal (length e.text)) ++ e.text) one good.title (sym whole ∙ is)

pub length_none : (a : Bool) (name rest title left : List ℕ) → rest ≡ line (codes "title=" ++ title) ++ left → has_feed title ≡ false → HasLine (codes "length=") left None → ReadsAfter a name rest None
length_none a name rest title left whole one never e flags names good is =
    let same = same_title rest title left e whole one good is in
    never (decimal (length e.text)) e.text (length_feeds (length e.text) good.text) same.1

-- both lines were read
pub record AreRead (rest title digits text : List ℕ) : Type 0 where
  pub title_is : has_feed title ≡ false
  pub digits_are : has_feed digits ≡ false
  pub whole : rest ≡ line (codes "title=" ++ title) ++ (line (codes "length=" ++ digits) ++ text)

same_parts : (rest title digits text : List ℕ) (e : Entry) → AreRead rest title digits text → IsEntryOf version.Two e → rest ≡ after_first e
    → (title ≡ e.title) × (digits ≡ decimal (length e.text)) × (text ≡ e.text)
same_parts rest title digits text e r good is =
    let titles = same_title rest title (line (codes "length=" ++ digits) ++ text) e r.whole r.title_is good is in
    let sizes = same_line (codes "length=") digits (decimal (length e.text)) text e.text r.digits_are (length_feeds (length e.text) good.text) titles.1 in
    (titles.0, sizes.0, sizes.1)

pub told_else : (a : Bool) (name rest title digits text : List ℕ) → AreRead rest title digits text → (digits ≡ decimal (length text) → ⊥) → ReadsAfter a name rest None
told_else a name rest title digits text r differ e flags names good is =
    let same = same_parts rest title digits text e r good is in
    differ (same.1 ∙ ap (λ (t : List ℕ). decimal (length t)) (sym same.2))

pub made_after : (a : Bool) (name rest title digits text : List ℕ) → AreRead rest title digits text → digits ≡ decimal (length text) → (r : Option Entry) → IsMadeOf a name title text r → ReadsAfter a name rest r
made_after a name rest title digits text r told None made = λ e flags names good is.
    let same = same_parts rest title digits text e r good is in
    made (record {
      is_name = subst IsName names good.name;
      is_title = subst IsUtf8 (sym same.0) good.title_utf8;
      is_short = subst (λ (t : List ℕ). length t ≤ most_text_bytes) (sym same.2) good.text;
      is_text = subst IsUtf8 (sym same.2) good.text_utf8;
    })
made_after a name rest title digits text r told (Some e) made = (
  ap (λ (x : Entry). x.autostart) made.0,
  ap (λ (x : Entry). x.name) made.0,
  subst (λ (x : Entry). IsEntryOf version.Two x) (sym made.0) (record { name = made.1.is_name; title = r.title_is; title_utf8 = made.1.is_title; text = made.1.is_short; text_utf8 = made.1.is_text }),
  r.whole ∙ ap (λ (d : List ℕ). line (codes "title=" ++ title) ++ (line (codes "length=" ++ d) ++ text)) told ∙ ap (λ (x : Entry). after_first x) (sym made.0),
)

pub neither : (bytes : List ℕ) → ReadsAs version.One bytes None → ReadsAs version.Two bytes None → IsReadAs bytes None
neither bytes one two version.One e is = one e is
neither bytes one two version.Two e is = two e is
