-- The last of some elements, which is that of the devices where there are any.
use Rattle.std.specs.Prelude.{ℕ, List, [], ◌∷◌, if◌then◌else◌}
use Rattle.text_spec.specs.declared.vocabulary.ElementName.TheVariants as known
use Rattle.text_spec.specs.Look.{is_element, children_of}
use Rattle.text_spec.specs.Tree.{Tree}
use Rattle.xml_print.specs.LiveText.{in_slots, with_children}

-- the element of the devices with its devices in their slots; any other element as it is
unfoldable pub devices_in_slots : List ℕ → Tree → Tree
devices_in_slots slots t = if is_element known.Devices t then with_children (in_slots slots (children_of t)) t else t

-- the same of the last of these
unfoldable pub last_in_slots : List ℕ → List Tree → List Tree
last_in_slots slots [] = []
last_in_slots slots (t ∷ []) = devices_in_slots slots t ∷ []
last_in_slots slots (t ∷ u ∷ ts) = t ∷ last_in_slots slots (u ∷ ts)
