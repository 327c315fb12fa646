use Rattle.std.proofs.Common.{◌≡◌, ◌++◌, List, ℕ, [], ◌∷◌, subst}
use Rattle.store_spec.specs.DefinitionFile.{line_feed}
use Rattle.store_reading.proofs.status.named.Goals as goal

pub returns-in-None : goal.returns-in-None
returns-in-None c name is = (subst (λ (l : List ℕ). (rest : List ℕ) → c.args.bytes.now ≡ l ++ rest → ⊥) c.as_slice.ensures c.in-None.ensures) (name ++ line_feed ∷ []) is
