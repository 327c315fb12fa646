-- A text that parses where something is read of it, and only there.
use Rattle.std.proofs.Common.{◌≡◌, refl}
use Rattle.std.proofs.lemmas.Option.{none-some}
use Rattle.std.specs.Prelude.{Option, Some, None, Result, Ok, Err, IsOk, is_ok, is_some, ◌↔◌}

pub is_ok_parsed : {A E : Type 0} (r : Result A E) (read : Option A) → (IsOk r ↔ ((u : A) × (read ≡ Some u))) → is_ok r ≡ is_some read
is_ok_parsed (Ok u) (Some v) both = refl
is_ok_parsed (Ok u) None both = absurd (none-some (both.0 refl).0 (both.0 refl).1)
is_ok_parsed (Err e) (Some v) both = both.1 (v, refl)
is_ok_parsed (Err e) None both = refl
