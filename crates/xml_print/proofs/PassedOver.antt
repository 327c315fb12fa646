-- Addresses are passed over where a domain is read.
use Rattle.std.proofs.Common.{◌≡◌, ℕ, List, [], ◌∷◌, ◌++◌, Bool, true, false, Option, Some, None, Ok, refl, sym, ap, ap₂, ◌∙◌}
use Rattle.std.specs.Prelude.{slice_get, if◌then◌else◌}
use Rattle.virt_types.specs.declared.domain.Live.{Live}
use Rattle.virt_types.specs.Below.types_base.declared.domain_def.DomainDef.{DomainDef}
use Rattle.text_spec.specs.declared.vocabulary.AttributeName.TheVariants as attribute
use Rattle.text_spec.specs.declared.vocabulary.ElementName.TheVariants as known
use Rattle.text_spec.specs.Definition.{domain_read}
use Rattle.text_spec.specs.DomainPrinted.{device_trees, front_trees, middle_trees, gathered, domain_tree}
use Rattle.text_spec.specs.DomainText.{domain_in}
use Rattle.text_spec.specs.Look.{listed}
use Rattle.text_spec.specs.Spelling.{pair, holding}
use Rattle.text_spec.specs.Text.{read_of}
use Rattle.text_spec.specs.Tree.{Tree, element, Trees, none, first, trees}
use Rattle.text_spec.specs.Vocabulary.{element_word}
use Rattle.text_spec.specs.Words.{domain_type_word}
use Rattle.text_spec.specs.Writable.{IsWritable}
use Rattle.text_spec.specs.Written.{written}
use Rattle.xml_tables.specs.Below.text_laws.Given.{IsDomain}
use Rattle.xml_tables.specs.Below.text_laws.ReadsAs.{IsSound, ReadsAsDomain}
use Rattle.xml_print.specs.LiveText.{address_tree, in_slot, has_slot, next_device, next_slots, in_slots, with_last, live_tree}
use Rattle.xml_print.proofs.Bare.{is_address, bare, bare_all, same_name, same_element}
use Rattle.xml_print.proofs.SameFaults.{same_domain_fault}
use Rattle.xml_print.proofs.SameValues.{same_domain}

-- ---- reading passes over
same_in : (t : Tree) → domain_in (bare t) ≡ domain_in t
unfolding domain_in
same_in t = rw (same_element known.Domain t, same_domain_fault t, same_domain t, same_name t) refl

-- ---- what is passed over
address_gone : (slot : ℕ) → is_address (address_tree slot) ≡ true
unfolding is_address address_tree
address_gone slot = refl

last_gone : (slot : ℕ) (ts : Trees) → bare_all (trees (listed ts ++ address_tree slot ∷ [])) ≡ bare_all ts
unfolding bare_all
last_gone slot none = rw (address_gone slot) refl
last_gone slot (first t ts) = ap (λ us. if is_address t then us else first (bare t) us) (last_gone slot ts)

without_last : (slot : ℕ) (t : Tree) → bare (with_last (address_tree slot) t) ≡ bare t
unfolding bare
without_last slot (element name attributes text children) = ap (element name attributes text) (last_gone slot children)

named_still : (slot : ℕ) (t : Tree) → is_address (with_last (address_tree slot) t) ≡ is_address t
unfolding is_address
named_still slot (element name attributes text children) = refl

slot_bare : (slot : Option ℕ) (t : Tree) → bare (in_slot slot t) ≡ bare t
slot_bare None t = refl
slot_bare (Some slot) t = without_last slot t

slot_named : (slot : Option ℕ) (t : Tree) → is_address (in_slot slot t) ≡ is_address t
slot_named None t = refl
slot_named (Some slot) t = named_still slot t

device_bare : (slots : List ℕ) (t : Tree) (b : Bool) → has_slot t ≡ b → bare (next_device slots t) ≡ bare t
device_bare slots t true e = rw e (slot_bare (slice_get slots 0) t)
device_bare slots t false e = rw e refl

device_named : (slots : List ℕ) (t : Tree) (b : Bool) → has_slot t ≡ b → is_address (next_device slots t) ≡ is_address t
device_named slots t true e = rw e (slot_named (slice_get slots 0) t)
device_named slots t false e = rw e refl

-- one element after another, bare
abbrev with_bare : Bool → Tree → Trees → Trees
with_bare gone t ts = if gone then ts else first t ts

slots_bare : (slots : List ℕ) (ts : List Tree) → bare_all (trees (in_slots slots ts)) ≡ bare_all (trees ts)
unfolding in_slots bare_all
slots_bare slots [] = refl
slots_bare slots (t ∷ ts) =
    ap (λ us. with_bare (is_address (next_device slots t)) (bare (next_device slots t)) us) (slots_bare (next_slots slots t) ts)
    ∙ ap₂ (λ b u. with_bare b u (bare_all (trees ts))) (device_named slots t (has_slot t) refl) (device_bare slots t (has_slot t) refl)

both_bare : (xs ys zs : List Tree) → bare_all (trees ys) ≡ bare_all (trees zs) → bare_all (trees (xs ++ ys)) ≡ bare_all (trees (xs ++ zs))
unfolding bare_all
both_bare [] ys zs e = e
both_bare (x ∷ xs) ys zs e = ap (λ us. with_bare (is_address x) (bare x) us) (both_bare xs ys zs e)

devices_element : (ts : List Tree) → bare_all (trees (holding known.Devices [] ts ∷ [])) ≡ first (element (element_word known.Devices) [] [] (bare_all (trees ts))) none
unfolding bare_all bare is_address
devices_element ts = refl

gathered_bare : (slots : List ℕ) (ts : List Tree) → bare_all (trees (gathered known.Devices (in_slots slots ts))) ≡ bare_all (trees (gathered known.Devices ts))
unfolding in_slots
gathered_bare slots [] = refl
gathered_bare slots (t ∷ ts) =
    devices_element (in_slots slots (t ∷ ts))
    ∙ ap (λ us. first (element (element_word known.Devices) [] [] us) none) (slots_bare slots (t ∷ ts))
    ∙ sym (devices_element (t ∷ ts))

live_bare : (l : Live) → bare (live_tree l) ≡ bare (domain_tree l.def)
unfolding bare live_tree domain_tree
live_bare l =
    ap (element (element_word known.Domain) (pair attribute.Type (domain_type_word l.def.kind) ∷ []) [])
    (both_bare (front_trees l.def) _ _ (both_bare (middle_trees l.def) _ _ (gathered_bare l.slots (device_trees l.def))))

pub live_read : (l : Live) → domain_in (live_tree l) ≡ domain_in (domain_tree l.def)
live_read l = sym (same_in (live_tree l)) ∙ ap domain_in (live_bare l) ∙ same_in (domain_tree l.def)

pub live_again : ((t : Tree) → IsWritable t → read_of (written t) ≡ Ok t) → ((d : DomainDef) → IsDomain d → domain_in (domain_tree d) ≡ Ok d)
    → (l : Live) → IsSound l.def → IsWritable (live_tree l) → ReadsAsDomain (written (live_tree l)) l.def
unfolding domain_read
live_again back read l is writable = record {
  tree = live_tree l;
  is_tree = back (live_tree l) writable;
  is_domain = rw (live_read l, read l.def is.values, is.fitting);
}
