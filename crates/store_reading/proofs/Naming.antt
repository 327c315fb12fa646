-- A file's name is read.
use Rattle.std.proofs.Common.{◌≡◌, ◌↔◌, ◌++◌, Bool, true, false, List, [], ◌∷◌, ℕ, Option, None, Some, Result, Ok, Err, IsOk, codes, inl, refl, sym, ◌∙◌, ap, subst, append_assoc, Decides}
use Rattle.std.specs.Borrow.{Bor}
use Rattle.std.proofs.lemmas.List.{append_cancel_left, append_cancel_right}
use Rattle.uuid.specs.Text.{hyphenated_text, lower, parsed}
use Rattle.uuid.proofs.RoundTrips.{parses_hyphenated}
use Rattle.store_spec.specs.declared.kind.BookKind.{BookKind}
use Rattle.store_spec.specs.declared.kind.BookKind.TheVariants as kind
use Rattle.store_spec.specs.FileNames.{IsDefinitionName, IsStatusName, IsUuid, file_name, kind_word}
use Rattle.store_spec.specs.StandsFor.{IsNamed}
use Rattle.store_reading.specs.FileName.{IsFileOf, IsNamedAs, IsSpelled}
use Rattle.store_reading.specs.Lines.{Ends, Strips}

some_same : (one other : List ℕ) → Some one ≡ Some other → one ≡ other
some_same one other same = cc

-- digits that are spelled so parse to it
parses : (digits uuid : List ℕ) → IsUuid uuid → digits ≡ hyphenated_text lower uuid → parsed digits ≡ Some uuid
parses digits uuid u is = ap parsed is ∙ sym (parses_hyphenated lower uuid (inl refl) u.sixteen u.bytes)

pub not_parsed : (digits : List ℕ) → ((u : List ℕ) → parsed digits ≡ Some u → ⊥) → IsSpelled digits None
not_parsed digits never uuid u is = never uuid (parses digits uuid u is)

pub spelled_else : (digits read : List ℕ) → Some read ≡ parsed digits → (hyphenated_text lower read ≡ digits → ⊥) → IsSpelled digits None
spelled_else digits read is differ uuid u spelled =
    let same = some_same read uuid (is ∙ parses digits uuid u spelled) in
    differ (ap (λ (l : List ℕ). hyphenated_text lower l) same ∙ sym spelled)

-- a file's name, from its front on
name_parts : (word uuid ending : List ℕ) → file_name word uuid ending ≡ word ++ (codes "-" ++ (hyphenated_text lower uuid ++ ending))
unfolding file_name
name_parts word uuid ending =
    append_assoc (word ++ codes "-") (hyphenated_text lower uuid) ending ∙ append_assoc word (codes "-") (hyphenated_text lower uuid ++ ending)

pub word_none : (word ending name : List ℕ) → ((rest : List ℕ) → name ≡ word ++ rest → ⊥) → IsFileOf word ending name None
word_none word ending name never uuid u is = never (codes "-" ++ (hyphenated_text lower uuid ++ ending)) (is ∙ name_parts word uuid ending)

after_word : (word ending name rest uuid : List ℕ) → name ≡ word ++ rest → name ≡ file_name word uuid ending → rest ≡ codes "-" ++ (hyphenated_text lower uuid ++ ending)
after_word word ending name rest uuid front is = append_cancel_left word rest (codes "-" ++ (hyphenated_text lower uuid ++ ending)) (sym front ∙ is ∙ name_parts word uuid ending)

pub hyphen_none : (word ending name rest : List ℕ) → name ≡ word ++ rest → ((left : List ℕ) → rest ≡ codes "-" ++ left → ⊥) → IsFileOf word ending name None
hyphen_none word ending name rest front never uuid u is = never (hyphenated_text lower uuid ++ ending) (after_word word ending name rest uuid front is)

after_hyphen : (word ending name rest left uuid : List ℕ) → name ≡ word ++ rest → rest ≡ codes "-" ++ left → name ≡ file_name word uuid ending → left ≡ hyphenated_text lower uuid ++ ending
after_hyphen word ending name rest left uuid front hyphen is =
    append_cancel_left (codes "-") left (hyphenated_text lower uuid ++ ending) (sym hyphen ∙ after_word word ending name rest uuid front is)

pub ending_none : (word ending name rest left : List ℕ) → name ≡ word ++ rest → rest ≡ codes "-" ++ left → ((digits : List ℕ) → left ≡ digits ++ ending → ⊥) → IsFileOf word ending name None
ending_none word ending name rest left front hyphen never uuid u is = never (hyphenated_text lower uuid) (after_hyphen word ending name rest left uuid front hyphen is)

pub file_of : (word ending name rest left digits : List ℕ) (r : Option (List ℕ)) → name ≡ word ++ rest → rest ≡ codes "-" ++ left → left ≡ digits ++ ending → IsSpelled digits r → IsFileOf word ending name r
file_of word ending name rest left digits None front hyphen end never = λ uuid u is.
    never uuid u (append_cancel_right digits (hyphenated_text lower uuid) ending (sym end ∙ after_hyphen word ending name rest left uuid front hyphen is))
file_of word ending name rest left digits (Some uuid) front hyphen end (u, spelled) = (
  u,
  front ∙ ap (λ (l : List ℕ). word ++ l) (hyphen ∙ ap (λ (l : List ℕ). codes "-" ++ l) (end ∙ ap (λ (l : List ℕ). l ++ ending) spelled)) ∙ sym (name_parts word uuid ending),
)

-- none of the kinds
pub no_kind : (name : List ℕ) → ((k : BookKind) → IsFileOf (kind_word k) (codes ".def") name None) → IsNamed name → ⊥
no_kind name never (k, uuid, u, is) = never k uuid u is

pub all_kinds : (name : List ℕ) → IsFileOf (kind_word kind.Domain) (codes ".def") name None → IsFileOf (kind_word kind.Network) (codes ".def") name None → IsFileOf (kind_word kind.Pool) (codes ".def") name None → IsNamed name → ⊥
all_kinds name domain network pool (kind.Domain, uuid, u, is) = domain uuid u is
all_kinds name domain network pool (kind.Network, uuid, u, is) = network uuid u is
all_kinds name domain network pool (kind.Pool, uuid, u, is) = pool uuid u is

-- whether a name says what it is
pub says_not : (name : List ℕ) → Ends (codes ".def") name None → IsDefinitionName name → ⊥
says_not name never (stem, is) = never stem is

status_parts : (stem : List ℕ) → codes "run-" ++ stem ++ codes ".sta" ≡ codes "run-" ++ (stem ++ codes ".sta")
status_parts stem = append_assoc (codes "run-") stem (codes ".sta")

pub no_run : (name : List ℕ) → Strips (codes "run-") name None → IsStatusName name → ⊥
no_run name never (stem, is) = never (stem ++ codes ".sta") (is ∙ status_parts stem)

pub no_status : (name rest : List ℕ) → name ≡ codes "run-" ++ rest → Ends (codes ".sta") rest None → IsStatusName name → ⊥
no_status name rest front never (stem, is) = never stem (append_cancel_left (codes "run-") rest (stem ++ codes ".sta") (sym front ∙ is ∙ status_parts stem))

pub status_of : (name rest stem : List ℕ) → name ≡ codes "run-" ++ rest → rest ≡ stem ++ codes ".sta" → IsStatusName name
status_of name rest stem front end = (stem, front ∙ ap (λ (l : List ℕ). codes "run-" ++ l) end ∙ sym (status_parts stem))
