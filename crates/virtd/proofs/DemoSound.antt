-- The domain `demo` is sound, so that its text reads back.
use Rattle.std.proofs.Common.{◌≡◌, ℕ, ◌≤◌, true, false, List, [], codes, length, Some, Ok, refl, arith}
use Rattle.std.specs.Char.{encode_utf8}
use Rattle.std.specs.Fmt.{digits}
use Rattle.std.specs.Str.{IsUtf8, chars, is_utf8}
use Rattle.std.proofs.lemmas.Str.{IsUtf8-from_is_utf8}
use Rattle.uuid.specs.Text.{by_index}
use Rattle.session_spec.specs.DefinitionText.{definition_in, text_of}
use Rattle.text_laws.specs.Given.{IsDomain}
use Rattle.text_laws.specs.ReadsAs.{IsSound, ReadsAsDomain}
use Rattle.text_laws.specs.Texts.{IsDomainText}
use Rattle.text_spec.specs.Character.{is_char}
use Rattle.text_spec.specs.DomainPrinted.{device_trees, domain_fits, domain_tree, front_trees, middle_trees, os_tree, stood_in}
use Rattle.text_spec.specs.GuestScript.{entries_of}
use Rattle.text_spec.specs.Spelling.{fits}
use Rattle.text_spec.specs.Writable.{IsText}
use Rattle.text_spec.specs.Written.{in_text, in_value, tree_written, trees_written}
use Rattle.virt_types.proofs.Names.{place_none}
use Rattle.virt_types.specs.Below.types_base.declared.domain_def.DomainDef.{DomainDef}
use Rattle.virtd.specs.Demo.{demo_def}

name_utf8 : IsUtf8 (codes "demo")
unfolding is_utf8 chars encode_utf8
name_utf8 = IsUtf8-from_is_utf8 (codes "demo") refl

system_utf8 : IsUtf8 (codes "hvm")
unfolding is_utf8 chars encode_utf8
system_utf8 = IsUtf8-from_is_utf8 (codes "hvm") refl

none_utf8 : IsUtf8 []
unfolding is_utf8 chars encode_utf8
none_utf8 = IsUtf8-from_is_utf8 [] refl

name_text : IsText (codes "demo")
unfolding chars is_char
name_text = record { utf8 = name_utf8; text_chars = (refl, (refl, (refl, (refl, tt)))); bare_front = refl; bare_end = refl }

system_text : IsText (codes "hvm")
unfolding chars is_char
system_text = record { utf8 = system_utf8; text_chars = (refl, (refl, (refl, tt))); bare_front = refl; bare_end = refl }

none_text : IsText []
unfolding chars
none_text = record { utf8 = none_utf8; text_chars = tt; bare_front = refl; bare_end = refl }

demo_values : IsDomain demo_def
unfolding demo_def entries_of
demo_values = record {
  name = place_none (codes "demo") name_utf8 refl refl;
  uuid = (refl, omega arith);
  guest = refl;
  memory = (omega arith, omega arith);
  current_memory = (omega arith, omega arith);
  vcpus = (omega arith, omega arith);
  current_vcpus = (omega arith, omega arith);
  disks = tt;
  disks_apart = tt;
  interfaces = tt;
  interfaces_apart = tt;
  few = omega arith;
}

demo_texts : IsDomainText demo_def
unfolding demo_def
demo_texts = record {
  name = name_text;
  title = tt;
  description = tt;
  guest = none_text;
  os = system_text;
  arch = tt;
  machine = tt;
  emulator = tt;
  disks = tt;
  interfaces = tt;
  serials = tt;
  consoles = tt;
  graphics = tt;
  memballoon = tt;
}

demo_fitting : domain_fits demo_def ≡ true
unfolding domain_fits fits stood_in demo_def encode_utf8 digits chars by_index device_trees domain_tree front_trees middle_trees os_tree in_text in_value tree_written trees_written
demo_fitting = refl

pub demo_sound : IsSound demo_def
demo_sound = record { values = demo_values; texts = demo_texts; fitting = demo_fitting }

pub demo_back : ReadsAsDomain (text_of demo_def) demo_def → definition_in (text_of demo_def) ≡ Ok demo_def
demo_back r = rw (r.is_tree, r.is_domain) refl
