-- Where a refusal cuts the text that it keeps.
use Rattle.std.proofs.Common.{◌≡◌, ℕ, ◌≤◌, List, length, take, drop, sym, ◌∙◌, ap, subst, arith}
use Rattle.std.proofs.lemmas.List.{take-append-drop, take-append-le, length-take}
use Rattle.std.proofs.lemmas.Str.{IsCharBoundary-from_take}
use Rattle.std.specs.Str.{IsUtf8, IsCharBoundary}

take_take : (bs : List ℕ) (m n : ℕ) → n ≤ length (take m bs) → take n (take m bs) ≡ take n bs
take_take bs m n within = sym (take-append-le n (take m bs) (drop m bs) within) ∙ ap (take n) (take-append-drop m bs)

-- a text may be cut where a front of it, within a longer front, is whole
pub cut_boundary : (bs : List ℕ) (m n : ℕ) → IsUtf8 bs → n ≤ length (take m bs) → IsUtf8 (take n (take m bs)) → IsCharBoundary bs n
cut_boundary bs m n utf8 within whole =
    IsCharBoundary-from_take bs n utf8 (omega (arith, within, length-take m bs)) (subst IsUtf8 (take_take bs m n within) whole)
