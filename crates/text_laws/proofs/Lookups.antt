-- Looking for attributes and elements in lists of those that may be absent.
use Rattle.std.proofs.Common.{◌≡◌, ℕ, List, [], ◌∷◌, ◌++◌, Bool, true, false, Option, Some, None, refl, ap}
use Rattle.std.specs.Prelude.{find, option_map, is_some}
use Rattle.text_spec.specs.declared.pair.Pair.{Pair}
use Rattle.text_spec.specs.declared.vocabulary.AttributeName.{AttributeName}
use Rattle.text_spec.specs.declared.vocabulary.ElementName.{ElementName}
use Rattle.text_spec.specs.Look.{is_element, is_attribute, attribute_of, first_of}
use Rattle.text_spec.specs.Spelling.{pair, pairs, filled, tagged, present, flagged}
use Rattle.text_spec.specs.Tree.{Tree}
use Rattle.text_spec.proofs.Seen.{listed-trees}

-- ---- attributes
-- the value of an attribute of this name
abbrev pub value_of : AttributeName → List Pair → Option (List ℕ)
value_of n ps = option_map (λ p. p.value) (find (is_attribute n) ps)

-- no value of the second name is taken for one of the first
abbrev pub Apart : AttributeName → AttributeName → Type 0
Apart n m = (x : List ℕ) → is_attribute n (pair m x) ≡ false

abbrev pub Own : AttributeName → Type 0
Own n = (x : List ℕ) → is_attribute n (pair n x) ≡ true

pub here : (n : AttributeName) (v : Option (List ℕ)) (rest : List Pair) → Own n → value_of n rest ≡ None → value_of n (pairs n v ++ rest) ≡ v
here n None rest own none = none
here n (Some x) rest own none = rw (own x)

pub past : (n m : AttributeName) (v : Option (List ℕ)) (rest : List Pair) → Apart n m → value_of n (pairs m v ++ rest) ≡ value_of n rest
past n m None rest apart = refl
past n m (Some x) rest apart = rw (apart x)

pub alone : (n : AttributeName) (v : Option (List ℕ)) → Own n → value_of n (pairs n v) ≡ v
alone n None own = refl
alone n (Some x) own = rw (own x)

pub other : (n m : AttributeName) (v : Option (List ℕ)) → Apart n m → value_of n (pairs m v) ≡ None
other n m None apart = refl
other n m (Some x) apart = rw (apart x)

-- the first attribute, and one after it
pub first_pair : (n : AttributeName) (x : List ℕ) (rest : List Pair) → Own n → value_of n (pair n x ∷ rest) ≡ Some x
first_pair n x rest own = rw (own x)

pub past_pair : (n m : AttributeName) (x : List ℕ) (rest : List Pair) → Apart n m → value_of n (pair m x ∷ rest) ≡ value_of n rest
past_pair n m x rest apart = rw (apart x)

pub attribute_in : (n : AttributeName) (e : ElementName) (ps : List Pair) (text : List ℕ) (ts : List Tree)
    → attribute_of n (filled e ps text ts) ≡ value_of n ps
unfolding attribute_of
attribute_in n e ps text ts = refl

-- ---- elements
-- the first element of this name
abbrev pub seek : ElementName → List Tree → Option Tree
seek n ts = find (is_element n) ts

pub first_in : (n e : ElementName) (ps : List Pair) (text : List ℕ) (ts : List Tree) → first_of n (filled e ps text ts) ≡ seek n ts
unfolding first_of
first_in n e ps text ts = ap (seek n) (listed-trees ts)

module _ {A : Type 0} (n : ElementName) (f : A → Tree) where
  pub found : (part : Option A) (rest : List Tree) → ((x : A) → is_element n (f x) ≡ true) → seek n rest ≡ None → seek n (present f part ++ rest) ≡ option_map f part
  found None rest own none = none
  found (Some x) rest own none = rw (own x)

  pub passed : (part : Option A) (rest : List Tree) → ((x : A) → is_element n (f x) ≡ false) → seek n (present f part ++ rest) ≡ seek n rest
  passed None rest apart = refl
  passed (Some x) rest apart = rw (apart x)

  pub found_last : (part : Option A) → ((x : A) → is_element n (f x) ≡ true) → seek n (present f part) ≡ option_map f part
  found_last None own = refl
  found_last (Some x) own = rw (own x)

  pub passed_last : (part : Option A) → ((x : A) → is_element n (f x) ≡ false) → seek n (present f part) ≡ None
  passed_last None apart = refl
  passed_last (Some x) apart = rw (apart x)

pub found_tree : (n : ElementName) (t : Tree) (rest : List Tree) → is_element n t ≡ true → seek n (t ∷ rest) ≡ Some t
found_tree n t rest own = rw own

pub passed_tree : (n : ElementName) (t : Tree) (rest : List Tree) → is_element n t ≡ false → seek n (t ∷ rest) ≡ seek n rest
passed_tree n t rest apart = rw apart

pub flag_back : (n : ElementName) (b : Bool) → is_element n (tagged n []) ≡ true → is_some (seek n (flagged n b)) ≡ b
flag_back n true own = rw own
flag_back n false own = refl

pub flag_passed : (n m : ElementName) (b : Bool) → is_element n (tagged m []) ≡ false → seek n (flagged m b) ≡ None
flag_passed n m true apart = rw apart
flag_passed n m false apart = refl
