-- The names of files are apart.
use Rattle.std.proofs.Common.{◌≡◌, ◌++◌, List, ℕ, ◌+◌, Some, length, get_or, codes, refl, sym, ◌∙◌, ap, arith, length-append, inl}
use Rattle.std.proofs.lemmas.List.{append_cancel_left, append_cancel_right, get_or-append-add}
use Rattle.uuid.proofs.RoundTrips.{parses_hyphenated}
use Rattle.uuid.specs.Text.{hyphenated_text, lower, parsed}
use Rattle.store_spec.specs.declared.kind.BookKind.{BookKind}
use Rattle.store_spec.specs.declared.kind.BookKind.TheVariants as kind
use Rattle.store_spec.specs.FileNames.{IsDefinitionName, IsUuid, definition_draft, definition_name, file_name, kind_word}
use Rattle.store_spec.specs.FileLaws.{HaveOwnFiles}
use Rattle.store_spec.specs.StandsFor.{IsNamed}

some_same : (one other : List ℕ) → Some one ≡ Some other → one ≡ other
some_same one other same = cc

pub same_uuid : (word ending one other : List ℕ) → IsUuid one → IsUuid other → file_name word one ending ≡ file_name word other ending → one ≡ other
unfolding file_name
same_uuid word ending one other a b same =
    let front = word ++ codes "-" in
    let a_text = hyphenated_text lower one in
    let b_text = hyphenated_text lower other in
    let texts = append_cancel_left front a_text b_text (append_cancel_right (front ++ a_text) (front ++ b_text) ending same) in
    some_same one other (parses_hyphenated lower one (inl refl) a.sixteen a.bytes ∙ ap parsed texts ∙ sym (parses_hyphenated lower other (inl refl) b.sixteen b.bytes))

-- the kinds' words begin with other letters
same_kind : (k l : BookKind) (one other ending : List ℕ) → file_name (kind_word k) one ending ≡ file_name (kind_word l) other ending → k ≡ l
unfolding file_name
same_kind kind.Domain kind.Domain one other ending same = refl
same_kind kind.Domain kind.Network one other ending same = let e : 100 ≡ 110 = ap (λ (l : List ℕ). get_or l 0 0) same in absurd (omega (arith, e))
same_kind kind.Domain kind.Pool one other ending same = let e : 100 ≡ 112 = ap (λ (l : List ℕ). get_or l 0 0) same in absurd (omega (arith, e))
same_kind kind.Network kind.Domain one other ending same = let e : 110 ≡ 100 = ap (λ (l : List ℕ). get_or l 0 0) same in absurd (omega (arith, e))
same_kind kind.Network kind.Network one other ending same = refl
same_kind kind.Network kind.Pool one other ending same = let e : 110 ≡ 112 = ap (λ (l : List ℕ). get_or l 0 0) same in absurd (omega (arith, e))
same_kind kind.Pool kind.Domain one other ending same = let e : 112 ≡ 100 = ap (λ (l : List ℕ). get_or l 0 0) same in absurd (omega (arith, e))
same_kind kind.Pool kind.Network one other ending same = let e : 112 ≡ 110 = ap (λ (l : List ℕ). get_or l 0 0) same in absurd (omega (arith, e))
same_kind kind.Pool kind.Pool one other ending same = refl

pub have_own_files : HaveOwnFiles
have_own_files k l one other a b same =
    let kinds : k ≡ l = same_kind k l one other (codes ".def") same in
    (kinds, same_uuid (kind_word k) (codes ".def") one other a b (same ∙ ap (λ (m : BookKind). definition_name m other) (sym kinds)))

-- the name of a definition's file says so
pub says_definition : (k : BookKind) (uuid : List ℕ) → IsDefinitionName (definition_name k uuid)
unfolding file_name
says_definition k uuid = (kind_word k ++ codes "-" ++ hyphenated_text lower uuid, refl)

pub is_named : (k : BookKind) (uuid : List ℕ) → IsUuid uuid → IsNamed (definition_name k uuid)
is_named k uuid u = (k, uuid, u, refl)

other_ending : (a b : List ℕ) → a ++ codes ".def" ≡ b ++ codes ".tmp" → ⊥
other_ending a b same =
    let long : length a ≡ length b = omega (arith, ap length same, length-append a (codes ".def"), length-append b (codes ".tmp")) in
    let left : get_or (a ++ codes ".def") (length a + 3) 0 ≡ 102 = get_or-append-add a (codes ".def") 3 0 in
    let right : get_or (b ++ codes ".tmp") (length b + 3) 0 ≡ 112 = get_or-append-add b (codes ".tmp") 3 0 in
    let right' : get_or (a ++ codes ".def") (length a + 3) 0 ≡ 112 = rw (same, long) right in
    omega (arith, left, right')

-- a draft is no definition's file
pub draft_apart : (k : BookKind) (uuid name : List ℕ) → IsDefinitionName name → name ≡ definition_draft k uuid → ⊥
unfolding file_name
draft_apart k uuid name (stem, is) draft = other_ending stem (kind_word k ++ codes "-" ++ hyphenated_text lower uuid) (sym is ∙ draft)
