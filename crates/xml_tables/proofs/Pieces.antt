-- The first piece of a script, and the others; entries after others.
use Rattle.std.proofs.Common.{◌≡◌, ◌+◌, ◌++◌, ℕ, suc, List, [], ◌∷◌, true, false, refl, cond, take, drop, ap, ap₂, arith, ◌∙◌, sym, append_assoc}
use Rattle.std.specs.Prelude.{◌==◌, not, Option, Some, None}
use Rattle.std.specs.List.{prefix_len}
use Rattle.types_base.specs.declared.script.ScriptEntry.{ScriptEntry}
use Rattle.text_spec.specs.Character.{semicolon}
use Rattle.text_spec.specs.GuestScript.{pieces_of, not_separator, in_first, before_entries}
use Rattle.xml_tables.specs.Pieces.{pieces_in, after_first, behind}

one_more : (n : ℕ) → 1 + n ≡ suc n
one_more n = omega arith

split_pieces : ℕ → List ℕ → List (List ℕ)
split_pieces n cs = take n cs ∷ pieces_in (after_first (drop n cs))

first_and_others : (cs : List ℕ) → pieces_of cs ≡ split_pieces (prefix_len not_separator cs) cs
unfolding pieces_of split_pieces
first_and_others [] = refl
first_and_others (c ∷ cs) =
    let n = prefix_len not_separator cs in
    elim (c == semicolon) as (λ b. cond b ([] ∷ pieces_of cs) (in_first c (pieces_of cs)) ≡ split_pieces (cond (not b) (1 + n) 0) (c ∷ cs)) [
      | true ↦ refl
      | false ↦ ap (in_first c) (first_and_others cs) ∙ sym (ap (λ k. split_pieces k (c ∷ cs)) (one_more n))
    ]

-- where a text is cut after its first piece
pub cut_after_first : (cs piece rest : List ℕ) (n : ℕ) → n ≡ prefix_len not_separator cs → piece ≡ take n cs → rest ≡ drop n cs
    → pieces_of cs ≡ piece ∷ pieces_in (after_first rest)
unfolding split_pieces
cut_after_first cs piece rest n count front back =
    first_and_others cs ∙ ap (λ k. split_pieces k cs) (sym count) ∙ sym (ap₂ (λ p r. p ∷ pieces_in (after_first r)) front back)

-- an entry moves from the front of what is to come to the end of what was found
pub entry_moved : (found now : List ScriptEntry) (e : ScriptEntry) (more : Option (List ScriptEntry)) → now ≡ found ++ e ∷ []
    → behind now more ≡ behind found (before_entries (Some e) more)
entry_moved found now e None is = refl
entry_moved found now e (Some es) is = ap (λ xs. Some (xs ++ es)) is ∙ ap Some (append_assoc found (e ∷ []) es)
