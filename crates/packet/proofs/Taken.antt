-- Bytes in memory of which a front was taken.
use Rattle.std.proofs.Common.{◌≡◌, ◌+◌, ◌++◌, ℕ, List, [], take, drop, sym, ap, ◌∙◌}
use Rattle.std.proofs.lemmas.List.{take-append-drop, drop-drop}
use Rattle.std.proofs.Math.Seq.{drop-nil}

-- what was left is what was taken now, and what is left after it
pub taken : (bytes into : List ℕ) (before count : ℕ) → take count into ≡ take count (drop before bytes) → drop before bytes ≡ take count into ++ drop (before + count) bytes
taken bytes into before count e =
    sym (take-append-drop count (drop before bytes))
    ∙ (ap (λ (front : List ℕ). front ++ drop count (drop before bytes)) (sym e)
    ∙ ap (λ (behind : List ℕ). take count into ++ behind) (drop-drop count before bytes))

-- where nothing was left, nothing is
pub ended : (bytes : List ℕ) (before count : ℕ) → drop before bytes ≡ [] → drop (before + count) bytes ≡ []
ended bytes before count e = sym (drop-drop count before bytes) ∙ (ap (λ (left : List ℕ). drop count left) e ∙ drop-nil count)
