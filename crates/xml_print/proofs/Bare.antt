-- Trees without addresses: what a table asks of them is what it asks of the whole ones.
use Rattle.std.proofs.Common.{◌≡◌, List, [], ◌∷◌, Bool, true, false, Option, Some, None, refl, ap, ◌∙◌}
use Rattle.std.specs.Prelude.{map, find, filter, option_map, option_and_then, is_some, codes, if◌then◌else◌}
use Rattle.std.specs.List.{filter_map}
use Rattle.std.specs.Str.{bytes_eq}
use Rattle.std.proofs.lemmas.Slice.Eq.{bytes_eq-Decides}
use Rattle.text_spec.specs.declared.row.Place.{Place}
use Rattle.text_spec.specs.declared.row.Place.TheVariants as place
use Rattle.text_spec.specs.declared.row.Source.{Source}
use Rattle.text_spec.specs.declared.row.Source.TheVariants as source
use Rattle.text_spec.specs.declared.vocabulary.AttributeName.{AttributeName}
use Rattle.text_spec.specs.declared.vocabulary.ElementName.{ElementName}
use Rattle.text_spec.specs.declared.vocabulary.ElementName.TheVariants as known
use Rattle.text_spec.specs.Look.{listed, name_of, text_of, is_element, attribute_of, all_of, all_in, first_of, elements_at, element_at, value_in, value_at}
use Rattle.text_spec.specs.Tree.{Tree, element, Trees, none, first}
use Rattle.text_spec.specs.Vocabulary.{element_word}

unfoldable pub is_address : Tree → Bool
is_address t = bytes_eq (name_of t) (codes "address")

unfoldable mutual
  pub bare : Tree → Tree
  bare (element name attributes text children) = element name attributes text (bare_all children)

  pub bare_all : Trees → Trees
  bare_all none = none
  bare_all (first t ts) = if is_address t then bare_all ts else first (bare t) (bare_all ts)

-- ---- names
unnamed : (n : ElementName) → bytes_eq (codes "address") (element_word n) ≡ false
unnamed known.Domain = refl
unnamed known.Name = refl
unnamed known.Uuid = refl
unnamed known.Title = refl
unnamed known.Description = refl
unnamed known.Metadata = refl
unnamed known.Guest = refl
unnamed known.Memory = refl
unnamed known.CurrentMemory = refl
unnamed known.Vcpu = refl
unnamed known.Os = refl
unnamed known.Type = refl
unnamed known.Boot = refl
unnamed known.OnPoweroff = refl
unnamed known.OnReboot = refl
unnamed known.OnCrash = refl
unnamed known.Devices = refl
unnamed known.Emulator = refl
unnamed known.Disk = refl
unnamed known.Interface = refl
unnamed known.Serial = refl
unnamed known.Console = refl
unnamed known.Graphics = refl
unnamed known.Memballoon = refl
unnamed known.Driver = refl
unnamed known.Source = refl
unnamed known.Target = refl
unnamed known.Readonly = refl
unnamed known.Mac = refl
unnamed known.Model = refl

-- no table names an address
unasked : (n : ElementName) (t : Tree) → is_address t ≡ true → is_element n t ≡ false
unfolding is_address is_element
unasked n t e = ap (λ x. bytes_eq x (element_word n)) ((bytes_eq-Decides (name_of t) (codes "address")).0 e) ∙ unnamed n

pub same_name : (t : Tree) → name_of (bare t) ≡ name_of t
unfolding bare
same_name (element name attributes text children) = refl

pub same_text : (t : Tree) → text_of (bare t) ≡ text_of t
unfolding bare
same_text (element name attributes text children) = refl

pub same_element : (n : ElementName) (t : Tree) → is_element n (bare t) ≡ is_element n t
unfolding is_element bare
same_element n (element name attributes text children) = refl

pub same_attribute : (n : AttributeName) (t : Tree) → attribute_of n (bare t) ≡ attribute_of n t
unfolding attribute_of bare
same_attribute n (element name attributes text children) = refl

-- ---- elements within
found_step : (n : ElementName) (t : Tree) (ts : Trees) (a b : Bool) → is_address t ≡ a → is_element n t ≡ b
    → find (is_element n) (listed (bare_all ts)) ≡ option_map bare (find (is_element n) (listed ts))
    → find (is_element n) (listed (bare_all (first t ts))) ≡ option_map bare (find (is_element n) (t ∷ listed ts))
unfolding bare_all
found_step n t ts true b e f rest = rw (e, unasked n t e) rest
found_step n t ts false true e f rest = rw (e, same_element n t, f) refl
found_step n t ts false false e f rest = rw (e, same_element n t, f) rest

found : (n : ElementName) (ts : Trees) → find (is_element n) (listed (bare_all ts)) ≡ option_map bare (find (is_element n) (listed ts))
unfolding bare_all
found n none = refl
found n (first t ts) = found_step n t ts (is_address t) (is_element n t) refl refl (found n ts)

kept_step : (n : ElementName) (t : Tree) (ts : Trees) (a b : Bool) → is_address t ≡ a → is_element n t ≡ b
    → filter (is_element n) (listed (bare_all ts)) ≡ map bare (filter (is_element n) (listed ts))
    → filter (is_element n) (listed (bare_all (first t ts))) ≡ map bare (filter (is_element n) (t ∷ listed ts))
unfolding bare_all
kept_step n t ts true b e f rest = rw (e, unasked n t e) rest
kept_step n t ts false true e f rest = rw (e, same_element n t, f) (ap (λ us. bare t ∷ us) rest)
kept_step n t ts false false e f rest = rw (e, same_element n t, f) rest

kept : (n : ElementName) (ts : Trees) → filter (is_element n) (listed (bare_all ts)) ≡ map bare (filter (is_element n) (listed ts))
unfolding bare_all
kept n none = refl
kept n (first t ts) = kept_step n t ts (is_address t) (is_element n t) refl refl (kept n ts)

pub bare_first : (n : ElementName) (t : Tree) → first_of n (bare t) ≡ option_map bare (first_of n t)
unfolding first_of bare
bare_first n (element name attributes text children) = found n children

pub bare_kept : (n : ElementName) (t : Tree) → all_of n (bare t) ≡ map bare (all_of n t)
unfolding all_of bare
bare_kept n (element name attributes text children) = kept n children

-- ---- what is asked of an element that may be absent
module _ {A : Type 0} (f : Tree → A) (same : (t : Tree) → f (bare t) ≡ f t) where
  pub through : (o : Option Tree) → option_map f (option_map bare o) ≡ option_map f o
  through None = refl
  through (Some t) = ap Some (same t)

  pub all_through : (ts : List Tree) → map f (map bare ts) ≡ map f ts
  all_through [] = refl
  all_through (t ∷ ts) = rw (same t, all_through ts) refl

module _ {A : Type 0} (f : Tree → Option A) (same : (t : Tree) → f (bare t) ≡ f t) where
  pub asked : (o : Option Tree) → option_and_then f (option_map bare o) ≡ option_and_then f o
  asked None = refl
  asked (Some t) = same t

  pub picked : (ts : List Tree) → filter_map f (map bare ts) ≡ filter_map f ts
  picked [] = refl
  picked (t ∷ ts) = rw (same t, picked ts) refl

pub still_there : (o : Option Tree) → is_some (option_map bare o) ≡ is_some o
still_there None = refl
still_there (Some t) = refl

-- ---- places
pub same_value_in : (s : Source) (t : Tree) → value_in s (bare t) ≡ value_in s t
same_value_in source.Text t = ap Some (same_text t)
same_value_in (source.Attribute n) t = same_attribute n t

inner_first : (n : ElementName) (o : Option Tree) → option_and_then (first_of n) (option_map bare o) ≡ option_map bare (option_and_then (first_of n) o)
inner_first n None = refl
inner_first n (Some t) = bare_first n t

pub bare_at : (p : Place) (t : Tree) → element_at p (bare t) ≡ option_map bare (element_at p t)
bare_at place.Here t = refl
bare_at (place.Child n) t = bare_first n t
bare_at (place.Inside outer n) t = ap (option_and_then (first_of n)) (bare_first outer t) ∙ inner_first n (first_of outer t)

inner_all : (n : ElementName) (o : Option Tree) → all_in n (option_map bare o) ≡ map bare (all_in n o)
inner_all n None = refl
inner_all n (Some t) = bare_kept n t

pub bare_elements : (p : Place) (t : Tree) → elements_at p (bare t) ≡ map bare (elements_at p t)
bare_elements place.Here t = refl
bare_elements (place.Child n) t = bare_kept n t
bare_elements (place.Inside outer n) t = ap (all_in n) (bare_first outer t) ∙ inner_all n (first_of outer t)

pub same_value_at : (p : Place) (s : Source) (t : Tree) → value_at p s (bare t) ≡ value_at p s t
same_value_at p s t = ap (option_and_then (value_in s)) (bare_at p t) ∙ asked (value_in s) (same_value_in s) (element_at p t)
