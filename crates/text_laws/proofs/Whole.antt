-- Whole texts that were read.
use Rattle.std.proofs.Common.{◌≡◌, ℕ, ◌+◌, List, [], ◌∷◌, Result, Ok, Err, subst, inl, inr, arith, length, take}
use Rattle.std.specs.Prelude.{◌==◌, nat_lt, chars, if◌then◌else◌}
use Rattle.std.specs.Str.Lossy.{utf8_valid_len}
use Rattle.text_spec.specs.declared.fault.Flaw.{Flaw}
use Rattle.text_spec.specs.declared.fault.TextFault.{TextFault}
use Rattle.text_spec.specs.declared.fault.TextKind.TheVariants as kind
use Rattle.text_spec.specs.Reading.{◌>>=◌, flaw}
use Rattle.text_spec.specs.Character.{less}
use Rattle.text_spec.specs.Declaration.{after_declaration}
use Rattle.text_spec.specs.Tree.{Tree}
use Rattle.text_spec.specs.Element.{Grown, element_at}
use Rattle.text_spec.specs.Text.{most_bytes, most_levels, most_elements, misc_at, root_at, all_read, document, unmarked, placed, tree_of_characters, cut_short, read_of}
use Rattle.text_laws.specs.Formed.{IsFormed}
use Rattle.text_laws.proofs.Parts.{bound, right, same_ok, chosen, passed}
use Rattle.text_laws.proofs.Grown.{element_good}

root_good : (cs : List ℕ) (g : Grown) → root_at cs ≡ right g → IsFormed g.tree
unfolding root_at
root_good [] g e = absurd cc
root_good (c ∷ cs) g e =
    let p = passed (c == less) (element_at most_levels most_elements (c ∷ cs)) (flaw kind.Tag (c ∷ cs)) g e in
    let f = element_good most_levels most_elements (c ∷ cs) g p.1 in
    record { tree = f.tree; elements = omega (arith, f.count) }

all_read_is : (tree t : Tree) (rest : List ℕ) → all_read tree rest ≡ right t → tree ≡ t
all_read_is tree t [] e = same_ok tree t e
all_read_is tree t (c ∷ rest) e = absurd cc

document_good : (cs : List ℕ) (t : Tree) → document cs ≡ right t → IsFormed t
unfolding document
document_good cs t e =
    let ending = λ (root : Grown). misc_at (length root.rest + 1) root.rest >>= λ rest. all_read root.tree rest in
    let rooted = λ (start : List ℕ). root_at start >>= ending in
    let a = bound (after_declaration cs) (λ prolog. misc_at (length prolog + 1) prolog >>= rooted) t e in
    let b = bound (misc_at (length a.value + 1) a.value) rooted t a.behind in
    let d = bound (root_at b.value) ending t b.behind in
    let f = bound (misc_at (length d.value.rest + 1) d.value.rest) (λ rest. all_read d.value.tree rest) t d.behind in
    subst IsFormed (all_read_is d.value.tree t f.value f.behind) (root_good b.value d.value d.before)

placed_good : (cs : List ℕ) (read : Result Tree Flaw) (t : Tree) → placed cs read ≡ Ok t → read ≡ right t
placed_good cs (Ok x) t e = cc
placed_good cs (Err f) t e = absurd cc

characters_good : (cs : List ℕ) (t : Tree) → tree_of_characters cs ≡ Ok t → IsFormed t
unfolding tree_of_characters
characters_good cs t e = document_good (unmarked cs) t (placed_good cs (document (unmarked cs)) t e)

no_cut : (n : ℕ) (read : Result Tree TextFault) (t : Tree) → cut_short n read ≡ Ok t → IsFormed t
no_cut n (Ok x) t e = absurd cc
no_cut n (Err f) t e = absurd cc

pub read_good : (bytes : List ℕ) (t : Tree) → read_of bytes ≡ Ok t → IsFormed t
unfolding read_of
read_good bytes t e =
    let n = utf8_valid_len bytes in
    let long : Result Tree TextFault = Err (record { at = most_bytes; kind = kind.TooLong }) in
    let cut = cut_short n (tree_of_characters (chars (take n bytes))) in
    let rest = if nat_lt n (length bytes) then cut else tree_of_characters (chars bytes) in
    elim (chosen (nat_lt most_bytes (length bytes)) long rest (Ok t) e) [
      | inl too_long ↦ absurd (let h = too_long.1 in cc)
      | inr short ↦ elim (chosen (nat_lt n (length bytes)) cut (tree_of_characters (chars bytes)) (Ok t) short.1) [
        | inl broken ↦ no_cut n (tree_of_characters (chars (take n bytes))) t broken.1
        | inr whole ↦ characters_good (chars bytes) t whole.1
      ]
    ]
