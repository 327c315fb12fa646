-- Values that are printed are read again.
use Rattle.std.proofs.Common.{◌≡◌, ℕ, ◌*◌, ◌^◌, ◌<◌, ◌≤◌, List, true, Option, Some, None, Ok, refl, arith}
use Rattle.std.specs.Prelude.{codes, nat_le, option_map}
use Rattle.std.specs.Fmt.{decimal}
use Rattle.std.proofs.lemmas.Bool.Decides.{nat_tests}
use Rattle.uuid.specs.Text.{hyphenated_text, lower}
use Rattle.types_base.specs.Name.{bad_place}
use Rattle.text_spec.specs.Units.{bytes_of, size_of, unit_of, base_of, power_of}
use Rattle.text_laws.specs.Given.{IsUuidOf}
use Rattle.text_laws.proofs.Figures.{number_back, uuid_back}
use Rattle.xml_tables.specs.Called.{is_pair_called, value_called}
use Rattle.xml_tables.specs.Rows.{optional}
use Rattle.xml_tables.specs.Values.{name_value, size_tree, size_value, uuid_value}

is_le : (a b : ℕ) → a ≤ b → nat_le a b ≡ true
is_le a b h = grind (arith, nat_tests)

byte_unit : unit_of (codes "bytes") ≡ Some 1
unfolding unit_of base_of power_of
byte_unit = refl

once : (n : ℕ) → n * 1 ≡ n
once n = omega arith

bytes_back : (n : ℕ) → n ≤ 2 ^ 60 → bytes_of (decimal n) (Some (codes "bytes")) ≡ Ok n
unfolding bytes_of size_of
bytes_back n is =
    let small : n < 10 ^ 19 = omega (arith, is) in
    rw (number_back n small, byte_unit, once n, is_le 0 n (omega arith), is_le n (2 ^ 60) is)

in_bytes : (word : List ℕ) (n : ℕ) → value_called (codes "unit") (size_tree word n) ≡ Some (codes "bytes")
unfolding value_called is_pair_called
in_bytes word n = refl

pub size_back : (word : List ℕ) (n : ℕ) → n ≤ 2 ^ 60 → size_value (size_tree word n) ≡ Ok n
size_back word n is = rw (in_bytes word n, bytes_back n is) refl

pub name_back : (name : List ℕ) → bad_place name ≡ None → name_value name ≡ Ok name
name_back name is = rw is refl

pub identifier_back : (path : List ℕ) (uuid : Option (List ℕ)) → IsUuidOf uuid → optional path uuid_value (option_map (hyphenated_text lower) uuid) ≡ Ok uuid
identifier_back path None is = refl
identifier_back path (Some uuid) is = rw (uuid_back uuid is.0 is.1) refl
