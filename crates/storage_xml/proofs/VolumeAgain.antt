-- Volumes that are printed are read again.
use Rattle.std.proofs.Common.{◌≡◌, ℕ, List, [], ◌∷◌, true, Some, Ok, refl, arith}
use Rattle.std.specs.Prelude.{codes, find}
use Rattle.text_spec.specs.Character.{is_name_start, is_name_char}
use Rattle.text_spec.specs.Text.{read_of}
use Rattle.text_spec.specs.Tree.{Tree}
use Rattle.text_spec.specs.Writable.{IsNamed, IsTree, IsWritable}
use Rattle.text_spec.specs.Written.{written}
use Rattle.text_laws.proofs.Plain.{named_by}
use Rattle.types_base.specs.declared.storage_def.VolDef.{VolDef}
use Rattle.xml_tables.specs.Called.{first_called, is_called, is_pair_called, text_called, value_called}
use Rattle.xml_tables.specs.Spelled.{worded, worth}
use Rattle.xml_tables.specs.Values.{size_tree}
use Rattle.xml_tables.proofs.Again.{name_back, size_back}
use Rattle.xml_tables.proofs.Formed.{first_in, holder_formed, one_attribute, size_formed, word_formed, writable}
use Rattle.storage_xml.specs.ReadsAs.{IsSoundVolume, ReadsAsVolume}
use Rattle.storage_xml.specs.VolumeText.{format_in, format_tree, target_tree, volume_fits, volume_in, volume_of, volume_read, volume_tree}

volume_named : IsNamed (codes "volume")
unfolding is_name_start is_name_char
volume_named = named_by _ _ refl refl refl

name_named : IsNamed (codes "name")
unfolding is_name_start is_name_char
name_named = named_by _ _ refl refl refl

capacity_named : IsNamed (codes "capacity")
unfolding is_name_start is_name_char
capacity_named = named_by _ _ refl refl refl

allocation_named : IsNamed (codes "allocation")
unfolding is_name_start is_name_char
allocation_named = named_by _ _ refl refl refl

target_named : IsNamed (codes "target")
unfolding is_name_start is_name_char
target_named = named_by _ _ refl refl refl

format_named : IsNamed (codes "format")
unfolding is_name_start is_name_char
format_named = named_by _ _ refl refl refl

type_named : IsNamed (codes "type")
unfolding is_name_start is_name_char
type_named = named_by _ _ refl refl refl

-- ---- what is printed can be written
formed : (d : VolDef) → IsSoundVolume d → IsTree 32 (volume_tree d)
unfolding volume_tree
formed d is =
    holder_formed 31 (codes "volume") []
    (worded (codes "name") d.name ∷ size_tree (codes "capacity") d.capacity ∷ size_tree (codes "allocation") d.allocation ∷ target_tree d.format ∷ [])
    volume_named tt (
      word_formed 30 (codes "name") d.name name_named is.name_text,
      (
        size_formed 30 (codes "capacity") d.capacity capacity_named (omega (arith, is.capacity)),
        (
          size_formed 30 (codes "allocation") d.allocation allocation_named (omega (arith, is.allocation)),
          (
            holder_formed 30 (codes "target") [] (format_tree d.format ∷ []) target_named tt
                (holder_formed 29 (codes "format") (worth (codes "type") d.format ∷ []) [] format_named (one_attribute (codes "type") d.format type_named is.format) tt, tt),
            tt,
          ),
        ),
      ),
    )

-- ---- what is printed is read
abbrev laid : VolDef → List Tree
laid d = worded (codes "name") d.name ∷ size_tree (codes "capacity") d.capacity ∷ size_tree (codes "allocation") d.allocation ∷ target_tree d.format ∷ []

found : (word : List ℕ) (d : VolDef) → first_called word (volume_tree d) ≡ find (is_called word) (laid d)
unfolding volume_tree
found word d = first_in word (codes "volume") [] [] (laid d)

name_at : (d : VolDef) → text_called (codes "name") (volume_tree d) ≡ Some d.name
unfolding is_called
name_at d = rw (found (codes "name") d) refl

capacity_at : (d : VolDef) → first_called (codes "capacity") (volume_tree d) ≡ Some (size_tree (codes "capacity") d.capacity)
unfolding is_called
capacity_at d = rw (found (codes "capacity") d) refl

allocation_at : (d : VolDef) → first_called (codes "allocation") (volume_tree d) ≡ Some (size_tree (codes "allocation") d.allocation)
unfolding is_called
allocation_at d = rw (found (codes "allocation") d) refl

target_at : (d : VolDef) → first_called (codes "target") (volume_tree d) ≡ Some (target_tree d.format)
unfolding is_called
target_at d = rw (found (codes "target") d) refl

format_at : (format : List ℕ) → first_called (codes "format") (target_tree format) ≡ Some (format_tree format)
unfolding is_called
format_at format = rw (first_in (codes "format") (codes "target") [] [] (format_tree format ∷ [])) refl

type_at : (format : List ℕ) → value_called (codes "type") (format_tree format) ≡ Some format
unfolding value_called is_pair_called
type_at format = refl

format_is : (d : VolDef) → format_in (volume_tree d) ≡ Some d.format
unfolding format_in
format_is d = rw (target_at d, format_at d.format, type_at d.format) refl

of_back : (d : VolDef) → IsSoundVolume d → volume_of (volume_tree d) ≡ Ok d
unfolding volume_of
of_back d is =
    rw (
      name_at d,
      name_back d.name is.name,
      capacity_at d,
      size_back (codes "capacity") d.capacity is.capacity,
      allocation_at d,
      size_back (codes "allocation") d.allocation is.allocation,
      format_is d,
    ) refl

root : (d : VolDef) → is_called (codes "volume") (volume_tree d) ≡ true
unfolding is_called volume_tree
root d = refl

read_back : (d : VolDef) → IsSoundVolume d → volume_read (volume_tree d) ≡ Ok d
unfolding volume_read volume_in
read_back d is = rw (root d, of_back d is, is.fitting) refl

pub volume_again : ((t : Tree) → IsWritable t → read_of (written t) ≡ Ok t) → (d : VolDef) → IsSoundVolume d → ReadsAsVolume (written (volume_tree d)) d
unfolding volume_fits
volume_again back d is = record {
  tree = volume_tree d;
  is_tree = back (volume_tree d) (writable (volume_tree d) (formed d is) is.fitting);
  is_volume = read_back d is;
}
