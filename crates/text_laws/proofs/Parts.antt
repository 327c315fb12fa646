-- What the parts of a reading that went well gave.
use Rattle.std.proofs.Common.{◌≡◌, Bool, true, false, Result, Ok, Err, refl, inl, inr}
use Rattle.std.specs.Prelude.{◌⊎◌, ◌&&◌, if◌then◌else◌}
use Rattle.text_spec.specs.declared.fault.Flaw.{Flaw}
use Rattle.text_spec.specs.Reading.{◌>>=◌}

-- a reading and what was read with what it gave
pub record Bound {A B : Type 0} (r : Result A Flaw) (f : A → Result B Flaw) (y : B) : Type 0 where
  pub value : A
  pub before : r ≡ Ok value
  pub behind : f value ≡ Ok y

pub bound : {A B : Type 0} (r : Result A Flaw) (f : A → Result B Flaw) (y : B) → (r >>= f) ≡ Ok y → Bound r f y
bound (Ok x) f y e = record { value = x; before = refl; behind = e }
bound (Err x) f y e = absurd cc

abbrev pub right : {A : Type 0} → A → Result A Flaw
right x = Ok x

pub same_ok : {A : Type 0} (x y : A) → right x ≡ right y → x ≡ y
same_ok x y e = cc

-- the two sides of a choice
pub chosen : {A : Type 0} (b : Bool) (r s z : A) → (if b then r else s) ≡ z → ((b ≡ true) × (r ≡ z)) ⊎ ((b ≡ false) × (s ≡ z))
chosen true r s z e = inl (refl, e)
chosen false r s z e = inr (refl, e)

pub passed : {A : Type 0} (b : Bool) (r : Result A Flaw) (f : Flaw) (z : A) → (if b then r else Err f) ≡ Ok z → (b ≡ true) × (r ≡ Ok z)
passed true r f z e = (refl, e)
passed false r f z e = absurd cc

pub kept : {A : Type 0} (b : Bool) (r : Result A Flaw) (f : Flaw) (z : A) → (if b then Err f else r) ≡ Ok z → (b ≡ false) × (r ≡ Ok z)
kept true r f z e = absurd cc
kept false r f z e = (refl, e)

pub both_of : (a b : Bool) → (a && b) ≡ true → (a ≡ true) × (b ≡ true)
both_of true b e = (refl, e)
both_of false b e = absurd cc
