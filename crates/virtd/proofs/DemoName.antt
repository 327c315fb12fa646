-- `demo` is a name.
use Rattle.std.proofs.Common.{◌≡◌, ℕ, codes, None, Some, refl}
use Rattle.std.specs.Str.{IsUtf8}
use Rattle.virt_types.proofs.Names.{place_none}
use Rattle.virt_types.specs.Name.{bad_place}

demo_fits : IsUtf8 (codes "demo") → bad_place (codes "demo") ≡ None
demo_fits text = place_none (codes "demo") text refl refl

pub demo_is_name : (at : ℕ) → IsUtf8 (codes "demo") → bad_place (codes "demo") ≡ Some at → ⊥
demo_is_name at text bad = cc (demo_fits text, bad)
