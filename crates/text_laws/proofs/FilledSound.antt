-- What is sound stays so once it is filled in.
use Rattle.std.proofs.Common.{◌≡◌, ℕ, zero, suc, ◌+◌, ◌*◌, ◌%◌, ◌^◌, ◌<◌, List, [], ◌∷◌, ◌++◌, length, set, get_or, Option, Some, None, refl, sym, ◌∙◌, ap, subst, arith, length-set}
use Rattle.std.specs.Int.{byte_at, bytes_high_first, to_be_bytes, w128}
use Rattle.std.specs.List.{AllByRecursion}
use Rattle.types_base.specs.declared.device_def.DeviceDef.{DeviceDef}
use Rattle.types_base.specs.declared.device_def.DeviceDef.TheVariants as device
use Rattle.types_base.specs.declared.device_def.Interface.{Interface}
use Rattle.types_base.specs.declared.domain_def.DomainDef.{DomainDef}
use Rattle.types_base.specs.declared.mac.Mac.{Mac}
use Rattle.text_spec.specs.Fill.{tails, version_4, IsUuidFilled, IsMacFilled, AreMacsFilled, IsFilled, IsAloneFilled, IsDeviceFilled}
use Rattle.text_laws.specs.Given.{AreBytes, IsUuidOf, IsInterface, IsDomain, IsDevice}
use Rattle.text_laws.specs.ReadsAs.{IsSound, IsSoundDevice}
use Rattle.text_laws.specs.Texts.{IsInterfaceText, IsDomainText, IsDeviceText}
use Rattle.text_laws.proofs.Apart.{filled_addresses, filled_keys}
use Rattle.text_laws.proofs.Filled.{with_parts, local_is, domain_filled_again, device_filled_again}

-- ---- identifiers
one_byte : (k n : ℕ) → byte_at k n < 256
one_byte zero n = omega arith
one_byte (suc k) n = omega arith

high_bytes : (k n : ℕ) → AreBytes (bytes_high_first k n)
high_bytes zero n = tt
high_bytes (suc k) n = (one_byte k n, high_bytes k n)

high_length : (k n : ℕ) → length (bytes_high_first k n) ≡ k
high_length zero n = refl
high_length (suc k) n = ap suc (high_length k n)

set_bytes : (xs : List ℕ) (i b : ℕ) → b < 256 → AreBytes xs → AreBytes (set xs i b)
set_bytes [] i b small all = tt
set_bytes (x ∷ xs) zero b small all = (small, all.1)
set_bytes (x ∷ xs) (suc i) b small all = (all.0, set_bytes xs i b small all.1)

marked : (xs : List ℕ) → length xs ≡ 16 → AreBytes xs → IsUuidOf (Some (set (set xs 8 (get_or xs 8 0 % 64 + 128)) 6 (get_or (set xs 8 (get_or xs 8 0 % 64 + 128)) 6 0 % 16 + 4 * 16)))
marked xs long all =
    let variant = get_or xs 8 0 % 64 + 128 in
    let ys = set xs 8 variant in
    let version = get_or ys 6 0 % 16 + 4 * 16 in
    (length-set ys 6 version ∙ (length-set xs 8 variant ∙ long), set_bytes ys 6 version (omega arith) (set_bytes xs 8 variant (omega arith) all))

version_is : (high low : ℕ) → IsUuidOf (Some (version_4 high low))
unfolding version_4
version_is high low =
    let bytes = to_be_bytes w128 (high * 2 ^ 64 + low) in
    marked bytes (high_length 16 (high * 2 ^ 64 + low)) (high_bytes 16 (high * 2 ^ 64 + low))

uuid_is : (words : List ℕ) (u v : Option (List ℕ)) → IsUuidFilled words u v → IsUuidOf u → IsUuidOf v
uuid_is words None None filled is = tt
uuid_is words None (Some v) filled is = subst IsUuidOf (sym filled.2) (version_is filled.0 filled.1)
uuid_is words (Some u) v filled is = subst IsUuidOf (sym filled.0) is

-- ---- interfaces
text_by : (words : List ℕ) (before : List Interface) (i j : Interface) (own : Option Mac) → IsMacFilled words before i own j → IsInterfaceText i → IsInterfaceText j
text_by words before i j None filled is = subst IsInterfaceText (sym filled.1) is
text_by words before i j (Some m) filled is = subst IsInterfaceText (sym filled.0) is

texts : (words : List ℕ) (before is js : List Interface) → AreMacsFilled words before is js → AllByRecursion IsInterfaceText is → AllByRecursion IsInterfaceText js
texts words before [] [] filled all = tt
texts words before [] (j ∷ js) filled all = absurd filled
texts words before (i ∷ is) [] filled all = absurd filled
texts words before (i ∷ is) (j ∷ js) filled all =
    (text_by filled.0 (before ++ i ∷ is) i j i.mac filled.2 all.0, texts filled.1 (before ++ j ∷ []) is js filled.3 all.1)

as_many : (words : List ℕ) (before is js : List Interface) → AreMacsFilled words before is js → length js ≡ length is
as_many words before [] [] filled = refl
as_many words before [] (j ∷ js) filled = absurd filled
as_many words before (i ∷ is) [] filled = absurd filled
as_many words before (i ∷ is) (j ∷ js) filled = ap suc (as_many filled.1 (before ++ j ∷ []) is js filled.3)

-- ---- domains
module _ (d : DomainDef) (u : Option (List ℕ)) (js : List Interface) (for_macs : List ℕ) (macs : AreMacsFilled for_macs [] d.interfaces js) where
  values_filled : IsDomain d → (for_uuid : List ℕ) → IsUuidFilled for_uuid d.uuid u → IsDomain (with_parts d u js)
  values_filled is for_uuid uuid =
      let few : length d.interfaces < tails = omega (arith, is.few) in
      record {
        name = is.name;
        uuid = uuid_is for_uuid d.uuid u uuid is.uuid;
        guest = is.guest;
        memory = is.memory;
        current_memory = is.current_memory;
        vcpus = is.vcpus;
        current_vcpus = is.current_vcpus;
        disks = is.disks;
        disks_apart = is.disks_apart;
        interfaces = filled_addresses for_macs d.interfaces js macs is.interfaces;
        interfaces_apart = filled_keys for_macs d.interfaces js macs few is.interfaces is.interfaces_apart;
        few = omega (arith, is.few, as_many for_macs [] d.interfaces js macs);
      }

  texts_filled : IsDomainText d → IsDomainText (with_parts d u js)
  texts_filled is = record {
    name = is.name;
    title = is.title;
    description = is.description;
    guest = is.guest;
    os = is.os;
    arch = is.arch;
    machine = is.machine;
    emulator = is.emulator;
    disks = is.disks;
    interfaces = texts for_macs [] d.interfaces js macs is.interfaces;
    serials = is.serials;
    consoles = is.consoles;
    graphics = is.graphics;
    memballoon = is.memballoon;
  }

pub domain_filled_sound : (d f : DomainDef) → IsSound d → IsFilled d f → IsSound f
domain_filled_sound d f is filled =
    let same : f ≡ with_parts d f.uuid f.interfaces = filled.1.others in
    record {
      values = subst IsDomain (sym same) (values_filled d f.uuid f.interfaces filled.1.for_macs filled.1.macs is.values filled.1.for_uuid filled.1.uuid);
      texts = subst IsDomainText (sym same) (texts_filled d f.uuid f.interfaces filled.1.for_macs filled.1.macs is.texts);
      fitting = domain_filled_again d f is.fitting filled;
    }

-- ---- devices
record Good (d : DeviceDef) : Type 0 where
  values : IsDevice d
  texts : IsDeviceText d

alone_by : (words : List ℕ) (i : Interface) (own : Option Mac) (f : DeviceDef) → IsAloneFilled words i own f → IsInterface i → IsInterfaceText i → Good f
alone_by words i None f filled is texts =
    subst Good (sym filled.1) (record { values = local_is (filled.0 % tails) (omega arith); texts = texts })
alone_by words i (Some m) f filled is texts = subst Good (sym filled.0) (record { values = is; texts = texts })

good_filled : (d f : DeviceDef) → IsDeviceFilled d f → IsDevice d → IsDeviceText d → Good f
good_filled (device.Disk d) f filled is texts = subst Good (sym filled.1.0) (record { values = is; texts = texts })
good_filled (device.Interface i) f filled is texts = alone_by filled.0 i i.mac f filled.1 is texts

pub device_filled_sound : (d f : DeviceDef) → IsSoundDevice d → IsDeviceFilled d f → IsSoundDevice f
device_filled_sound d f is filled =
    let good = good_filled d f filled is.values is.texts in
    record {
      values = good.values;
      texts = good.texts;
      fitting = device_filled_again d f is.fitting filled;
    }
