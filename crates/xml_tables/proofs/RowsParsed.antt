-- Nothing is read of a text that does not parse.
use Rattle.std.proofs.Common.{◌≡◌, refl, sym, true≢false}
use Rattle.std.specs.Prelude.{Option, Some, None, Err, IsOk, ◌↔◌}

pub nothing_read : {A E : Type 0} (e : E) (read : Option A) → (IsOk {T = A} (Err e) ↔ ((u : A) × (read ≡ Some u))) → None ≡ read
nothing_read e None both = refl
nothing_read e (Some v) both = absurd (let is = both.1 (v, refl) in true≢false (sym is))
