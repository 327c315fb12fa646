-- Laws of the order of fronts: of two fronts one is longer or they are equal, and longer than a longer one is longer.
use Rattle.std.proofs.Common.{◌≡◌, true, false, arith}
use Rattle.types_base.specs.Front.{is_longer, longer}
use Rattle.types_base.specs.declared.caller.Front.{Front}

-- no front is longer than itself
pub not_longer_itself : (a : Front) → is_longer a a ≡ false
not_longer_itself a = grind arith

-- the order is transitive
pub longer_through : (a b c : Front) → is_longer a b ≡ true → is_longer b c ≡ true → is_longer a c ≡ true
longer_through a b c ab bc = grind (arith, ab, bc)

-- it is total
pub equal_fronts : (a b : Front) → is_longer a b ≡ false → is_longer b a ≡ false → (a.chapter ≡ b.chapter) × (a.marks ≡ b.marks)
equal_fronts a b ab ba = (grind (arith, ab, ba), grind (arith, ab, ba))

-- the longer of two is no shorter than either
pub longer_bounds : (a b : Front) → (is_longer a (longer a b) ≡ false) × (is_longer b (longer a b) ≡ false)
longer_bounds a b = (grind arith, grind arith)
