-- Texts in columns, as a format pads them.
use Rattle.std.proofs.Common.{◌≡◌, ◌-◌, ◌≤◌, ◌^◌, ◌==◌, ℕ, zero, suc, false, List, [], ◌∷◌, ◌++◌, length, replicate, refl, sym, ap, ◌∙◌, append_assoc, arith}
use Rattle.std.specs.Char.{encode_utf8}
use Rattle.std.specs.Fmt.{char_count, format_spec, padded, styled_text, take_chars}
use Rattle.std.specs.List.{repeat}
use Rattle.std.proofs.Padding.{padded_is, take_chars_all}
use Rattle.std.proofs.lemmas.List.{append-nil}
use Rattle.command_spec.specs.Columns.{at_left, at_right, line, ◌then◌}
use Rattle.command_spec.specs.Printed.{field, row_text}

-- as many characters as a text in memory has at most
abbrev most : ℕ
most = 2 ^ 64 - 1

blanks : (n : ℕ) → repeat n (encode_utf8 32) ≡ replicate n 32
unfolding encode_utf8
blanks zero = refl
blanks (suc n) = ap (λ (t : List ℕ). 32 ∷ t) (blanks n)

padded_left : (w : ℕ) (text : List ℕ) → length text ≤ most → padded (format_spec 32 1 0 w most) text ≡ at_left w text
padded_left w text short =
    let all : take_chars most text ≡ text = take_chars_all most text short in
    let rest : w - char_count text - 0 ≡ w - char_count text = omega arith in
    sym (padded_is (format_spec 32 1 0 w most) text text (w - char_count text) 0 (sym all) refl refl)
    ∙ ap (λ (t : List ℕ). text ++ t) (ap (λ (n : ℕ). repeat n (encode_utf8 32)) rest ∙ blanks (w - char_count text))

padded_right : (w : ℕ) (text : List ℕ) → length text ≤ most → padded (format_spec 32 3 0 w most) text ≡ at_right w text
padded_right w text short =
    let all : take_chars most text ≡ text = take_chars_all most text short in
    let rest : w - char_count text - (w - char_count text) ≡ 0 = omega arith in
    sym (padded_is (format_spec 32 3 0 w most) text text (w - char_count text) (w - char_count text) (sym all) refl refl)
    ∙ (ap (λ (n : ℕ). repeat (w - char_count text) (encode_utf8 32) ++ (text ++ repeat n (encode_utf8 32))) rest
    ∙ (ap (λ (t : List ℕ). repeat (w - char_count text) (encode_utf8 32) ++ t) (append-nil text)
    ∙ ap (λ (t : List ℕ). t ++ text) (blanks (w - char_count text))))

styled_left : (w : ℕ) (text : List ℕ) → (w == 0) ≡ false → length text ≤ most → styled_text (format_spec 32 1 0 w most) text ≡ at_left w text
styled_left w text some short = rw some (padded_left w text short)

styled_right : (w : ℕ) (text : List ℕ) → (w == 0) ≡ false → length text ≤ most → styled_text (format_spec 32 3 0 w most) text ≡ at_right w text
styled_right w text some short = rw some (padded_right w text short)

-- the columns of a label, a number and a name
pub label_left : (text : List ℕ) → length text ≤ most → styled_text (format_spec 32 1 0 16 most) text ≡ at_left 16 text
label_left text short = styled_left 16 text refl short

pub id_right : (text : List ℕ) → length text ≤ most → styled_text (format_spec 32 3 0 5 most) text ≡ at_right 5 text
id_right text short = styled_right 5 text refl short

pub name_left : (text : List ℕ) → length text ≤ most → styled_text (format_spec 32 1 0 20 most) text ≡ at_left 20 text
name_left text short = styled_left 20 text refl short

-- a label, and its value
pub field_is : {F : Type 0} (shown : F → List ℕ) (s t : F) (label value out : List ℕ) → s ≡ t → shown t ≡ at_left 16 label → out ≡ shown s ++ (value ++ 10 ∷ []) → out ≡ field label value
field_is shown s t label value out is left e =
    e ∙ (ap (λ r. r ++ (value ++ 10 ∷ [])) (ap shown is ∙ left) ∙ sym (append_assoc (at_left 16 label) value (10 ∷ [])))

grouped : (r l state : List ℕ) → r ++ (32 ∷ (l ++ (32 ∷ (state ++ 10 ∷ [])))) ≡ line (r then l then state)
grouped r l state = simp append_assoc

-- a number, a name and a state
pub row_is : {F : Type 0} (shown other : F → List ℕ) (s t u v : F) (id name state out : List ℕ) → s ≡ t → u ≡ v → shown t ≡ at_right 5 id → other v ≡ at_left 20 name
    → out ≡ shown s ++ (32 ∷ (other u ++ (32 ∷ (state ++ 10 ∷ [])))) → out ≡ row_text id name state
row_is shown other s t u v id name state out is also right left e =
    e ∙ (ap (λ (r : List ℕ). r ++ (32 ∷ (other u ++ (32 ∷ (state ++ 10 ∷ []))))) (ap shown is ∙ right)
    ∙ (ap (λ (l : List ℕ). at_right 5 id ++ (32 ∷ (l ++ (32 ∷ (state ++ 10 ∷ []))))) (ap other also ∙ left)
    ∙ grouped (at_right 5 id) (at_left 20 name) state))
