-- The element of the devices is the last one of a domain's.
use Rattle.std.proofs.Common.{◌≡◌, ℕ, List, [], ◌∷◌, ◌++◌, length, refl, sym, ap, ◌∙◌, append_assoc}
use Rattle.std.specs.Prelude.{map}
use Rattle.std.proofs.lemmas.List.{map-append}
use Rattle.virt_types.specs.declared.domain.Live.{Live}
use Rattle.virt_types.specs.Below.types_base.declared.domain_def.DomainDef.{DomainDef}
use Rattle.text_spec.specs.declared.vocabulary.AttributeName.TheVariants as attribute
use Rattle.text_spec.specs.declared.vocabulary.ElementName.TheVariants as known
use Rattle.text_spec.specs.DomainPrinted.{device_trees, front_trees, middle_trees, gathered, domain_tree, domain_children, size_trees, os_tree}
use Rattle.text_spec.specs.Look.{is_element, children_of}
use Rattle.text_spec.specs.Spelling.{pair, holding, worded}
use Rattle.text_spec.specs.declared.tree.Tree as declared
use Rattle.text_spec.specs.declared.tree.Tree.{out-Tree}
use Rattle.text_spec.specs.Tree.{Tree, element, seen, trees}
use Rattle.text_spec.specs.Words.{domain_type_word, lifecycle_action_word, crash_action_word}
use Rattle.text_spec.proofs.Seen.{children_seen, listed-trees}
use Rattle.xml_print.specs.Last.{devices_in_slots, last_in_slots}
use Rattle.xml_print.specs.LiveText.{in_slots, live_tree, with_children}
use Rattle.xml_print.proofs.Rebuilt.{parts_with}

last_of : (slots : List ℕ) (xs : List Tree) (t : Tree) → last_in_slots slots (xs ++ t ∷ []) ≡ xs ++ devices_in_slots slots t ∷ []
unfolding last_in_slots
last_of slots [] t = refl
last_of slots (x ∷ []) t = refl
last_of slots (x ∷ y ∷ xs) t = ap (λ ts. x ∷ ts) (last_of slots (y ∷ xs) t)

pub none_last : (slots : List ℕ) (xs : List Tree) → length xs ≡ 0 → last_in_slots slots xs ≡ xs
unfolding last_in_slots
none_last slots [] e = refl
none_last slots (x ∷ xs) e = absurd cc

-- what is before the devices, without the last of it
before_last : Live → List Tree
before_last l =
    front_trees l.def ++ (size_trees l.def ++ (os_tree l.def.os
    ∷ worded known.OnPoweroff [] (lifecycle_action_word l.def.on_poweroff)
    ∷ worded known.OnReboot [] (lifecycle_action_word l.def.on_reboot) ∷ []))

last_before : Live → Tree
last_before l = worded known.OnCrash [] (crash_action_word l.def.on_crash)

fronts : (l : Live) → front_trees l.def ++ middle_trees l.def ≡ before_last l ++ last_before l ∷ []
unfolding middle_trees before_last last_before
fronts l = sym (append_assoc (front_trees l.def) _ (worded known.OnCrash [] (crash_action_word l.def.on_crash) ∷ []))

crash_stays : (slots : List ℕ) (l : Live) → devices_in_slots slots (last_before l) ≡ last_before l
unfolding devices_in_slots last_before is_element
crash_stays slots l = refl

devices_taken : (slots : List ℕ) (ts : List Tree) → devices_in_slots slots (holding known.Devices [] ts) ≡ holding known.Devices [] (in_slots slots ts)
unfolding devices_in_slots is_element
devices_taken slots ts = ap (λ xs. holding known.Devices [] (in_slots slots xs)) (listed-trees ts)

-- the last element of a domain's, by whether there are devices
by_devices : (l : Live) (ts : List Tree) → last_in_slots l.slots (front_trees l.def ++ (middle_trees l.def ++ gathered known.Devices ts))
    ≡ front_trees l.def ++ (middle_trees l.def ++ gathered known.Devices (in_slots l.slots ts))
unfolding in_slots
by_devices l [] =
    let same : front_trees l.def ++ (middle_trees l.def ++ []) ≡ before_last l ++ last_before l ∷ [] =
    sym (append_assoc (front_trees l.def) (middle_trees l.def) []) ∙ ap (λ xs. xs ++ []) (fronts l) ∙ append_assoc (before_last l) (last_before l ∷ []) [] in
    ap (last_in_slots l.slots) same ∙ last_of l.slots (before_last l) (last_before l)
    ∙ ap (λ t. before_last l ++ t ∷ []) (crash_stays l.slots l) ∙ sym same
by_devices l (t ∷ ts) =
    let front = front_trees l.def ++ middle_trees l.def in
    ap (last_in_slots l.slots) (sym (append_assoc (front_trees l.def) (middle_trees l.def) (holding known.Devices [] (t ∷ ts) ∷ [])))
    ∙ last_of l.slots front (holding known.Devices [] (t ∷ ts))
    ∙ ap (λ d. front ++ d ∷ []) (devices_taken l.slots (t ∷ ts))
    ∙ append_assoc (front_trees l.def) (middle_trees l.def) (holding known.Devices [] (in_slots l.slots (t ∷ ts)) ∷ [])

-- the whole tree, of its elements with the devices in their slots
whole : (l : Live) (ts : List Tree) → ts ≡ last_in_slots l.slots (domain_children l.def)
    → holding known.Domain (pair attribute.Type (domain_type_word l.def.kind) ∷ []) ts ≡ live_tree l
unfolding live_tree
whole l ts e = ap (holding known.Domain (pair attribute.Type (domain_type_word l.def.kind) ∷ [])) (e ∙ by_devices l (device_trees l.def))

-- ---- trees in memory
-- the last element is put back, with its devices in their slots
pub put_back : (slots : List ℕ) (before all now : List declared.Tree) (last put : declared.Tree) → all ≡ before ++ last ∷ [] → now ≡ before ++ put ∷ []
    → seen put ≡ devices_in_slots slots (seen last) → map seen now ≡ last_in_slots slots (map seen all)
put_back slots before all now last put all_is now_is is =
    ap (map seen) now_is ∙ map-append seen before (put ∷ []) ∙ ap (λ t. map seen before ++ t ∷ []) is
    ∙ sym (last_of slots (map seen before) (seen last)) ∙ sym (ap (last_in_slots slots) (ap (map seen) all_is ∙ map-append seen before (last ∷ [])))

children_in : (d : DomainDef) → children_of (domain_tree d) ≡ domain_children d
unfolding domain_tree
children_in d = listed-trees (domain_children d)

with_them : (d : DomainDef) (ts : List Tree) → with_children ts (domain_tree d) ≡ holding known.Domain (pair attribute.Type (domain_type_word d.kind) ∷ []) ts
unfolding domain_tree
with_them d ts = refl

-- the tree of a running domain, from that of its definition
pub live_of : (t : declared.Tree) (l : Live) (now : List declared.Tree) (s : Tree) → seen t ≡ domain_tree l.def
    → map seen now ≡ last_in_slots l.slots (map seen (out-Tree t).children.items)
    → s ≡ element (out-Tree t).name (out-Tree t).attributes (out-Tree t).text (trees (map seen now)) → s ≡ live_tree l
live_of t l now s is changed parts =
    let children : map seen now ≡ last_in_slots l.slots (domain_children l.def) =
    changed ∙ ap (last_in_slots l.slots) (sym (children_seen t) ∙ ap children_of is ∙ children_in l.def) in
    parts ∙ sym (parts_with t (map seen now)) ∙ ap (with_children (map seen now)) is ∙ with_them l.def (map seen now) ∙ whole l (map seen now) children
