-- A domain that is read is within its ranges.
use Rattle.std.proofs.Common.{◌≡◌, ℕ, ◌+◌, ◌≤◌, List, [], ◌∷◌, length, Bool, true, false, Option, Some, None, refl, sym, ◌∙◌, ap, subst, arith}
use Rattle.std.specs.Prelude.{is_none, nat_lt, unwrap_or, if◌then◌else◌}
use Rattle.std.proofs.lemmas.Bool.Decides.{nat_tests}
use Rattle.std.proofs.lemmas.List.{length-map}
use Rattle.types_base.specs.Name.{bad_place}
use Rattle.text_spec.specs.declared.definition.DefFault.{DefFault}
use Rattle.text_spec.specs.declared.device_kind.DeviceKind.TheVariants as of
use Rattle.text_spec.specs.declared.row.Content.TheVariants as content
use Rattle.text_spec.specs.declared.row.Place.TheVariants as place
use Rattle.text_spec.specs.declared.row.Source.TheVariants as source
use Rattle.text_spec.specs.declared.vocabulary.ElementName.{ElementName}
use Rattle.text_spec.specs.declared.vocabulary.ElementName.TheVariants as element
use Rattle.text_spec.specs.Content.{content_fault}
use Rattle.text_spec.specs.DeviceText.{disk_of, interface_of}
use Rattle.text_spec.specs.DomainText.{domain_rows, devices_at, all_devices_fault, many_fault, domain_fault}
use Rattle.text_spec.specs.DomainValue.{own_text, script_with, script_of, domain_of}
use Rattle.text_spec.specs.GuestScript.{entries_of}
use Rattle.text_spec.specs.Table.{rows_fault}
use Rattle.text_spec.specs.Tree.{Tree}
use Rattle.text_laws.specs.Given.{IsDomain}
use Rattle.text_laws.proofs.Ranges.{memory_is, current_memory_is, vcpus_is, current_vcpus_is, uuid_is}
use Rattle.text_laws.proofs.ReadDevices.{disks_read, interfaces_read}
use Rattle.text_laws.proofs.ReadRows.{or_none, first_row, later_rows, Valued, needed_value, Perhaps, absent, there, optional_value, good_is, none_is, known_is}

name_by : (t : Tree) → Valued (place.Child element.Name) source.Text content.Name t → bad_place (unwrap_or (own_text element.Name t) []) ≡ None
unfolding content_fault
name_by t v = ap (λ o. bad_place (unwrap_or o [])) v.is_value ∙ none_is (bad_place v.value) (good_is (is_none (bad_place v.value)) v.good)

no_entries : entries_of [] ≡ Some (script_with []).entries
unfolding entries_of
no_entries = refl

script_at : (t : Tree) → Perhaps (place.Inside element.Metadata element.Guest) source.Text content.Script t → entries_of (script_of t).text ≡ Some (script_of t).entries
unfolding script_of content_fault
script_at t (absent is) = subst (λ o. entries_of (unwrap_or o []) ≡ Some (script_with (unwrap_or o [])).entries) (sym is) no_entries
script_at t (there v) =
    subst (λ o. entries_of (unwrap_or o []) ≡ Some (script_with (unwrap_or o [])).entries) (sym v.is_value) (known_is (entries_of v.value) [] v.good)

pub record Rows (t : Tree) : Type 0 where
  pub name : bad_place (unwrap_or (own_text element.Name t) []) ≡ None
  pub guest : entries_of (script_of t).text ≡ Some (script_of t).entries

rows_of : (names : List ElementName) (t : Tree) → rows_fault names domain_rows t ≡ None → Rows t
unfolding domain_rows
rows_of names t e = record {
  name = name_by t (needed_value (place.Child element.Name) source.Text content.Name t (first_row names _ _ t (later_rows 1 names domain_rows t e)).0);
  guest = script_at t (optional_value (place.Inside element.Metadata element.Guest) source.Text content.Script t
      (first_row names _ _ t (later_rows 5 names domain_rows t e)).0);
}

few_by : (told : DefFault) (n : ℕ) (b : Bool) → nat_lt 30 n ≡ b → ◌≡◌ {A = Option DefFault} (if b then Some told else None) None → n ≤ 30
few_by told n true is e = absurd cc
few_by told n false is e = grind (arith, nat_tests, is)

few_of : (t : Tree) → many_fault t ≡ None → length (devices_at of.Disk t) + length (devices_at of.Interface t) ≤ 30
few_of t e = few_by _ (length (devices_at of.Disk t) + length (devices_at of.Interface t)) _ refl e

pub domain_values : (t : Tree) → domain_fault t ≡ None → IsDomain (domain_of t)
unfolding domain_fault domain_of
domain_values t e =
    let rows = or_none (rows_fault (element.Domain ∷ []) domain_rows t) _ e in
    let disks = or_none (all_devices_fault of.Disk t) _ rows.1 in
    let interfaces = or_none (all_devices_fault of.Interface t) (many_fault t) disks.1 in
    let found = rows_of (element.Domain ∷ []) t rows.0 in
    let all_disks = disks_read (element.Domain ∷ element.Devices ∷ element.Disk ∷ []) [] (devices_at of.Disk t) disks.0 in
    let all_interfaces = interfaces_read (element.Domain ∷ element.Devices ∷ element.Interface ∷ []) [] (devices_at of.Interface t) interfaces.0 in
    record {
      name = found.name;
      uuid = uuid_is t;
      guest = found.guest;
      memory = memory_is t;
      current_memory = current_memory_is t;
      vcpus = vcpus_is t;
      current_vcpus = current_vcpus_is t;
      disks = all_disks.0;
      disks_apart = all_disks.1;
      interfaces = all_interfaces.0;
      interfaces_apart = all_interfaces.1;
      few = omega (arith, few_of t interfaces.1, length-map (devices_at of.Disk t) disk_of, length-map (devices_at of.Interface t) interface_of);
    }
