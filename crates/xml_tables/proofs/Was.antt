-- What was read, value by value, where nothing was wrong.
use Rattle.std.proofs.Common.{◌≡◌, ℕ, ◌^◌, ◌≤◌, List, Bool, true, false, Option, Some, None, Result, Ok, Err, refl, ap, subst, arith}
use Rattle.std.specs.Prelude.{◌&&◌, is_none, nat_le, if◌then◌else◌}
use Rattle.std.proofs.lemmas.Bool.Decides.{nat_tests}
use Rattle.types_base.specs.Name.{bad_place}
use Rattle.text_spec.specs.declared.definition.DefFault.{DefFault}
use Rattle.text_spec.specs.declared.definition.DefKind.{DefKind}
use Rattle.text_spec.specs.declared.definition.DefKind.TheVariants as kind
use Rattle.text_spec.specs.declared.size.SizeFault.TheVariants as size
use Rattle.text_spec.specs.Definition.{not_too_long}
use Rattle.text_spec.specs.Look.{text_of}
use Rattle.text_spec.specs.Tree.{Tree}
use Rattle.text_spec.specs.Units.{bytes_of, ranged, size_of}
use Rattle.text_laws.specs.Texts.{Of}
use Rattle.text_laws.proofs.Parts.{both_of}
use Rattle.xml_tables.specs.Called.{value_called}
use Rattle.std.specs.Prelude.{codes}
use Rattle.xml_tables.specs.Rows.{at, needed, optional, present, then_read}
use Rattle.xml_tables.specs.Values.{known_value, name_value, size_value, sized}

-- what was read first, and what was read next
pub record Then {A B : Type 0} (r : Result A DefFault) (next : A → Result B DefFault) (v : B) : Type 0 where
  pub value : A
  pub was : r ≡ Ok value
  pub next_was : next value ≡ Ok v

pub then_was : {A B : Type 0} (r : Result A DefFault) (next : A → Result B DefFault) (v : B) → then_read r next ≡ Ok v → Then r next v
then_was (Ok x) next v e = record { value = x; was = refl; next_was = e }
then_was (Err f) next v e = absurd cc

pub same_value : {A : Type 0} (x y : A) → (let r : Result A DefFault = Ok x in r ≡ Ok y) → x ≡ y
same_value x y e = cc

pub at_was : {A : Type 0} (path : List ℕ) (r : Result A DefKind) (v : A) → at path r ≡ Ok v → r ≡ Ok v
at_was path (Ok x) v e = let same : x ≡ v = cc in cc
at_was path (Err k) v e = absurd cc

module _ {A X : Type 0} (Q : X → Type 0) (P : A → Type 0) (path : List ℕ) (value : X → Result A DefKind) (each : (x : X) (a : A) → Q x → value x ≡ Ok a → P a) where
  -- of a value that has to be there
  pub needed_was : (o : Option X) (v : A) → Of Q o → needed path value o ≡ Ok v → P v
  needed_was None v is e = absurd cc
  needed_was (Some x) v is e = each x v is (at_was path (value x) v e)

  present_was : (x : X) (r : Result A DefKind) (v : Option A) → Q x → value x ≡ r → present (at path r) ≡ Ok v → Of P v
  present_was x (Ok a) v is was e = subst (Of P) (let same : Some a ≡ v = cc in same) (each x a is was)
  present_was x (Err k) v is was e = absurd cc

  -- of one that may be absent
  pub optional_was : (o : Option X) (v : Option A) → Of Q o → optional path value o ≡ Ok v → Of P v
  optional_was None v is e = subst (Of P) (let same : None ≡ v = cc in same) tt
  optional_was (Some x) v is e = present_was x (value x) v is refl e

-- ---- values
pub known_was : {A : Type 0} (o : Option A) (v : A) → known_value o ≡ Ok v → o ≡ Some v
known_was None v e = absurd cc
known_was (Some x) v e = let same : x ≡ v = cc in ap Some same

name_by : (text name : List ℕ) (place : Option ℕ) → bad_place text ≡ place → (if is_none place then Ok text else Err kind.BadValue) ≡ Ok name → (text ≡ name) × (bad_place text ≡ None)
name_by text name None at e = (cc, at)
name_by text name (Some n) at e = absurd cc

pub name_was : (text name : List ℕ) → name_value text ≡ Ok name → (text ≡ name) × (bad_place text ≡ None)
name_was text name e = name_by text name (bad_place text) refl e

within_by : (n bytes : ℕ) (b : Bool) → (nat_le 0 n && nat_le n (2 ^ 60)) ≡ b → sized (if b then Ok n else Err size.Range) ≡ Ok bytes → bytes ≤ 2 ^ 60
within_by n bytes true is e = let same : n ≡ bytes = cc in grind (arith, nat_tests, (both_of (nat_le 0 n) (nat_le n (2 ^ 60)) is).1)
within_by n bytes false is e = absurd cc

ranged_by : (o : Option ℕ) (bytes : ℕ) → sized (ranged 0 (2 ^ 60) o) ≡ Ok bytes → bytes ≤ 2 ^ 60
ranged_by None bytes e = absurd cc
ranged_by (Some n) bytes e = within_by n bytes (nat_le 0 n && nat_le n (2 ^ 60)) refl e

pub size_was : (t : Tree) (bytes : ℕ) → size_value t ≡ Ok bytes → bytes ≤ 2 ^ 60
unfolding bytes_of
size_was t bytes e = ranged_by (size_of 1 (text_of t) (value_called (codes "unit") t)) bytes e

-- ---- the whole
pub record Fitting {A : Type 0} (fits : A → Bool) (r : Result A DefFault) (v : A) : Type 0 where
  pub was : r ≡ Ok v
  pub fitting : fits v ≡ true

fitting_by : {A : Type 0} (told : DefFault) (fits : A → Bool) (x v : A) (b : Bool) → fits x ≡ b → (if b then Ok x else Err told) ≡ Ok v → Fitting fits (Ok x) v
fitting_by told fits x v true is e = let same : x ≡ v = cc in record { was = cc; fitting = subst (λ y. fits y ≡ true) same is }
fitting_by told fits x v false is e = absurd cc

pub fitting_was : {A : Type 0} (told : DefFault) (fits : A → Bool) (r : Result A DefFault) (v : A) → not_too_long told fits r ≡ Ok v → Fitting fits r v
fitting_was told fits (Ok x) v e = fitting_by told fits x v (fits x) refl e
fitting_was told fits (Err f) v e = absurd cc

-- what is read of the right root
pub root_was : {A : Type 0} (b : Bool) (r : Result A DefFault) (fault : DefFault) (v : A) → (if b then r else Err fault) ≡ Ok v → r ≡ Ok v
root_was true r fault v e = e
root_was false r fault v e = absurd cc
