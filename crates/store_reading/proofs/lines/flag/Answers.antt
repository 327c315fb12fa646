use Rattle.std.proofs.Common.{◌≡◌, ◌++◌, List, ℕ, subst}
use Rattle.store_reading.proofs.Cutting.{flag_none}
use Rattle.store_reading.proofs.lines.flag.Goals as goal

pub returns-in-None-strip : goal.returns-in-None-strip
returns-in-None-strip c = flag_none c.args.bytes.now
    (subst (λ (l : List ℕ). (rest : List ℕ) → c.args.bytes.now ≡ l ++ rest → ⊥) c.as_slice.ensures c.in-None.ensures)
    (subst (λ (l : List ℕ). (rest : List ℕ) → c.args.bytes.now ≡ l ++ rest → ⊥) c.as_slice-in-None.ensures c.in-None-strip.ensures)
