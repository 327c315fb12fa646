-- Fronts compared.
use Rattle.std.proofs.Common.{◌≡◌, ◌⊎◌, ℕ, ◌<◌, Bool, true, false, ◌||◌, ◌&&◌, ltb, eqb, inl, inr, refl, ltb-true, eqb-true, lt-ltb, eq-eqb}
use Rattle.history_spec.specs.Front.{Front, front_lt}

by_tests : (a b m n : ℕ) (p q r : Bool) → ltb a b ≡ p → eqb a b ≡ q → ltb m n ≡ r → (p || (q && r)) ≡ true → (a < b) ⊎ ((a ≡ b) × (m < n))
by_tests a b m n true q r x y z e = inl (ltb-true a b x)
by_tests a b m n false true true x y z e = inr (eqb-true a b y, ltb-true m n z)
by_tests a b m n false true false x y z e = absurd cc
by_tests a b m n false false r x y z e = absurd cc

-- what the test shows
pub front_lt-true : (x y : Front) → front_lt x y ≡ true → (x.chapter < y.chapter) ⊎ ((x.chapter ≡ y.chapter) × (x.marks < y.marks))
front_lt-true x y e = by_tests x.chapter y.chapter x.marks y.marks (ltb x.chapter y.chapter) (eqb x.chapter y.chapter) (ltb x.marks y.marks) refl refl refl e

earlier_test : (p q : Bool) → p ≡ true → (p || q) ≡ true
earlier_test true q e = refl
earlier_test false q e = absurd cc

-- a later chapter is further
pub earlier-front_lt : (x y : Front) → x.chapter < y.chapter → front_lt x y ≡ true
earlier-front_lt x y l = earlier_test (ltb x.chapter y.chapter) (eqb x.chapter y.chapter && ltb x.marks y.marks) (lt-ltb x.chapter y.chapter l)

both_tests : (p q r : Bool) → q ≡ true → r ≡ true → (p || (q && r)) ≡ true
both_tests true q r e f = refl
both_tests false true true e f = refl
both_tests false true false e f = absurd cc
both_tests false false r e f = absurd cc

-- more marks of one chapter are further
pub fewer-front_lt : (x y : Front) → x.chapter ≡ y.chapter → x.marks < y.marks → front_lt x y ≡ true
fewer-front_lt x y e l = both_tests (ltb x.chapter y.chapter) (eqb x.chapter y.chapter) (ltb x.marks y.marks) (eq-eqb x.chapter y.chapter e) (lt-ltb x.marks y.marks l)
