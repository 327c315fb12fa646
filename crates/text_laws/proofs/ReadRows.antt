-- What rows of element tables that find no fault say of the values there.
use Rattle.std.proofs.Common.{◌≡◌, ℕ, zero, suc, drop, List, [], ◌∷◌, Bool, true, false, Option, Some, None, Result, Ok, Err, refl, ◌∙◌, sym, ap}
use Rattle.std.specs.Prelude.{is_none, option_and_then, unwrap_or, if◌then◌else◌}
use Rattle.std.specs.Option.{option_or}
use Rattle.text_spec.specs.declared.definition.DefFault.{DefFault}
use Rattle.text_spec.specs.declared.definition.DefKind.{DefKind}
use Rattle.text_spec.specs.declared.row.Content.{Content}
use Rattle.text_spec.specs.declared.row.Place.{Place}
use Rattle.text_spec.specs.declared.row.Row.{Row}
use Rattle.text_spec.specs.declared.row.Source.{Source}
use Rattle.text_spec.specs.declared.vocabulary.ElementName.{ElementName}
use Rattle.text_spec.specs.Content.{bad_unless, known, content_fault}
use Rattle.text_spec.specs.Look.{element_at, value_in, value_at}
use Rattle.text_spec.specs.Table.{needed, optional, placed, value_fault, wrong_in_first, wrong_at, rows_fault, told}
use Rattle.text_spec.specs.Definition.{not_too_long}
use Rattle.text_spec.specs.Tree.{Tree}

pub or_none : {A : Type 0} (a b : Option A) → option_or a b ≡ None → (a ≡ None) × (b ≡ None)
or_none None b e = (refl, e)
or_none (Some x) b e = absurd cc

unplaced : (names : List ElementName) (k : Option DefKind) → placed names k ≡ None → k ≡ None
unplaced names None e = refl
unplaced names (Some k) e = absurd cc

-- of rows that find no fault: the first one, and the others
pub first_row : (names : List ElementName) (r : Row) (rs : List Row) (t : Tree) → rows_fault names (r ∷ rs) t ≡ None
    → (wrong_at r t ≡ None) × (rows_fault names rs t ≡ None)
unfolding rows_fault
first_row names r rs t e =
    let parts = or_none _ _ e in
    (unplaced _ (wrong_at r t) parts.0, parts.1)

-- those after the first ones
pub later_rows : (n : ℕ) (names : List ElementName) (rs : List Row) (t : Tree) → rows_fault names rs t ≡ None → rows_fault names (drop n rs) t ≡ None
later_rows zero names rs t e = e
later_rows (suc n) names [] t e = e
later_rows (suc n) names (r ∷ rs) t e = later_rows n names rs t (first_row names r rs t e).1

-- ---- values
-- a value of this content
pub record Valued (p : Place) (s : Source) (c : Content) (t : Tree) : Type 0 where
  pub first : Tree
  pub value : List ℕ
  pub is_value : value_at p s t ≡ Some value
  pub good : content_fault c first value ≡ None

some_value : (p : Place) (s : Source) (c : Content) (t first : Tree) (o : Option (List ℕ)) → element_at p t ≡ Some first → value_in s first ≡ o
    → value_fault (needed p s c) first o ≡ None → Valued p s c t
some_value p s c t first None at is e = absurd cc
some_value p s c t first (Some v) at is e = record { first = first; value = v; is_value = ap (option_and_then (value_in s)) at ∙ is; good = e }

some_first : (p : Place) (s : Source) (c : Content) (t : Tree) (o : Option Tree) → element_at p t ≡ o → wrong_in_first (needed p s c) o ≡ None
    → Valued p s c t
some_first p s c t None at e = absurd cc
some_first p s c t (Some first) at e = some_value p s c t first (value_in s first) at refl e

pub needed_value : (p : Place) (s : Source) (c : Content) (t : Tree) → wrong_at (needed p s c) t ≡ None → Valued p s c t
unfolding wrong_at
needed_value p s c t e = some_first p s c t (element_at p t) refl e

-- the same of one that may be absent
pub data Perhaps (p : Place) (s : Source) (c : Content) (t : Tree) : Type 0 where
  absent : value_at p s t ≡ None → Perhaps p s c t
  there : Valued p s c t → Perhaps p s c t

perhaps_value : (p : Place) (s : Source) (c : Content) (t first : Tree) (o : Option (List ℕ)) → element_at p t ≡ Some first → value_in s first ≡ o
    → value_fault (optional p s c) first o ≡ None → Perhaps p s c t
perhaps_value p s c t first None at is e = absent (ap (option_and_then (value_in s)) at ∙ is)
perhaps_value p s c t first (Some v) at is e =
    there (record { first = first; value = v; is_value = ap (option_and_then (value_in s)) at ∙ is; good = e })

perhaps_first : (p : Place) (s : Source) (c : Content) (t : Tree) (o : Option Tree) → element_at p t ≡ o → wrong_in_first (optional p s c) o ≡ None
    → Perhaps p s c t
perhaps_first p s c t None at e = absent (ap (option_and_then (value_in s)) at)
perhaps_first p s c t (Some first) at e = perhaps_value p s c t first (value_in s first) at refl e

pub optional_value : (p : Place) (s : Source) (c : Content) (t : Tree) → wrong_at (optional p s c) t ≡ None → Perhaps p s c t
unfolding wrong_at
optional_value p s c t e = perhaps_first p s c t (element_at p t) refl e

-- ---- tests that a value passed
pub good_is : (b : Bool) → bad_unless b ≡ None → b ≡ true
good_is true e = refl
good_is false e = absurd cc

pub none_is : {A : Type 0} (o : Option A) → is_none o ≡ true → o ≡ None
none_is None e = refl
none_is (Some x) e = absurd cc

pub known_is : {A : Type 0} (o : Option A) (default : A) → known o ≡ None → o ≡ Some (unwrap_or o default)
known_is None default e = absurd cc
known_is (Some x) default e = refl

-- ---- definitions that were read
pub told_is : {A : Type 0} (f : Option DefFault) (v d : A) → ◌≡◌ {A = Result A DefFault} (told f v) (Ok d) → (f ≡ None) × (v ≡ d)
told_is None v d e = (refl, cc)
told_is (Some f) v d e = absurd cc

fitting_by : {A : Type 0} (f : DefFault) (fits : A → Bool) (v d : A) (b : Bool) → fits v ≡ b → ◌≡◌ {A = Result A DefFault} (if b then Ok v else Err f) (Ok d)
    → (◌≡◌ {A = Result A DefFault} (Ok v) (Ok d)) × (fits d ≡ true)
fitting_by f fits v d true is e = let same : v ≡ d = cc in (e, ap fits (sym same) ∙ is)
fitting_by f fits v d false is e = absurd cc

pub fitting_is : {A : Type 0} (f : DefFault) (fits : A → Bool) (read : Result A DefFault) (d : A) → not_too_long f fits read ≡ Ok d
    → (read ≡ Ok d) × (fits d ≡ true)
fitting_is f fits (Ok v) d e = fitting_by f fits v d (fits v) refl e
fitting_is f fits (Err g) d e = absurd cc
