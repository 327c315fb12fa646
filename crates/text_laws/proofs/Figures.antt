-- Numbers, identifiers and words that were printed are read.
use Rattle.std.proofs.Common.{◌≡◌, ℕ, ◌*◌, ◌^◌, ◌<◌, ◌≤◌, List, [], ◌∷◌, length, true, Some, Ok, refl, sym, arith, inl}
use Rattle.std.specs.Prelude.{nat_le, codes}
use Rattle.std.specs.Char.{is_ascii_digit, digit_value}
use Rattle.std.specs.Fmt.{decimal}
use Rattle.std.specs.Int.{div_ceil}
use Rattle.std.specs.List.{list_all}
use Rattle.std.specs.Str.Parse.{AllDigits}
use Rattle.std.proofs.lemmas.Bool.Decides.{nat_tests}
use Rattle.std.proofs.lemmas.Fmt.{decimal_is_IsNumeral, length-decimal-le}
use Rattle.std.proofs.lemmas.List.Elements.{All-from_recursion}
use Rattle.uuid.specs.Text.{parsed, hyphenated_text, lower}
use Rattle.uuid.proofs.RoundTrips.{parses_hyphenated}
use Rattle.types_base.specs.declared.domain_def.BootDevice.{BootDevice}
use Rattle.types_base.specs.declared.domain_def.BootDevice.TheVariants as boot
use Rattle.types_base.specs.declared.domain_def.CrashAction.{CrashAction}
use Rattle.types_base.specs.declared.domain_def.CrashAction.TheVariants as crash
use Rattle.types_base.specs.declared.domain_def.DomainType.{DomainType}
use Rattle.types_base.specs.declared.domain_def.DomainType.TheVariants as domain
use Rattle.types_base.specs.declared.domain_def.LifecycleAction.{LifecycleAction}
use Rattle.types_base.specs.declared.domain_def.LifecycleAction.TheVariants as action
use Rattle.text_spec.specs.GuestScript.{number_within}
use Rattle.text_spec.specs.Units.{is_number, number_of, unit_of, base_of, power_of, size_of, kibibytes_of}
use Rattle.text_spec.specs.Words.{domain_type_word, domain_type_of, boot_device_word, boot_device_of, lifecycle_action_word, lifecycle_action_of, crash_action_word, crash_action_of}
use Rattle.text_laws.specs.Given.{IsWithin, AreBytes}

-- ---- numbers
one_digit : (c : ℕ) → digit_value c < 10 → is_ascii_digit c ≡ true
one_digit c h = grind (arith, nat_tests)

all_digits : (cs : List ℕ) → AllDigits 10 cs → list_all is_ascii_digit cs ≡ true
all_digits [] h = refl
all_digits (c ∷ cs) h = rw (one_digit c h.0, all_digits cs h.1)

is_le : (a b : ℕ) → a ≤ b → nat_le a b ≡ true
is_le a b h = grind (arith, nat_tests)

pub number_back : (n : ℕ) → n < 10 ^ 19 → number_of (decimal n) ≡ Some n
unfolding number_of is_number
number_back n small =
    let fits : n < 2 ^ 64 = omega (arith, small) in
    let numeral = decimal_is_IsNumeral n fits in
    let long : 1 ≤ length (decimal n) = omega (arith, numeral.0.0) in
    let short = length-decimal-le 19 n (omega arith) small fits in
    rw (is_le 1 (length (decimal n)) long, is_le (length (decimal n)) 19 short, all_digits (decimal n) numeral.0.1, numeral.1)

pub within_back : (least most n : ℕ) → n < 10 ^ 19 → IsWithin least most n → number_within least most (decimal n) ≡ Some n
unfolding number_within
within_back least most n small is = rw (number_back n small, is_le least n is.0, is_le n most is.1)

kibibyte : unit_of (codes "KiB") ≡ Some 1024
unfolding unit_of base_of power_of
kibibyte = refl

rounded : (k : ℕ) → div_ceil (k * 1024) 1024 ≡ k
rounded k = omega arith

pub memory_back : (k : ℕ) → IsWithin 1 (2 ^ 40) k → kibibytes_of (decimal k) (Some (codes "KiB")) ≡ Ok k
unfolding kibibytes_of size_of
memory_back k is =
    let small : k < 10 ^ 19 = omega (arith, is.1) in
    rw (number_back k small, kibibyte, rounded k, is_le 1 k is.0, is_le k (2 ^ 40) is.1)

-- ---- identifiers
pub uuid_back : (uuid : List ℕ) → length uuid ≡ 16 → AreBytes uuid → parsed (hyphenated_text lower uuid) ≡ Some uuid
uuid_back uuid long bytes = sym (parses_hyphenated lower uuid (inl refl) long (All-from_recursion (λ b. b < 256) uuid bytes))

-- ---- words
pub domain_type_back : (k : DomainType) → domain_type_of (domain_type_word k) ≡ Some k
unfolding domain_type_of
domain_type_back domain.Kvm = refl
domain_type_back domain.Qemu = refl

pub boot_back : (k : BootDevice) → boot_device_of (boot_device_word k) ≡ Some k
unfolding boot_device_of
boot_back boot.Hd = refl
boot_back boot.Cdrom = refl
boot_back boot.Network = refl
boot_back boot.Fd = refl

pub lifecycle_back : (k : LifecycleAction) → lifecycle_action_of (lifecycle_action_word k) ≡ Some k
unfolding lifecycle_action_of
lifecycle_back action.Destroy = refl
lifecycle_back action.Restart = refl
lifecycle_back action.Preserve = refl
lifecycle_back action.RenameRestart = refl

pub crash_back : (k : CrashAction) → crash_action_of (crash_action_word k) ≡ Some k
unfolding crash_action_of
crash_back crash.Destroy = refl
crash_back crash.Restart = refl
crash_back crash.Preserve = refl
crash_back crash.RenameRestart = refl
crash_back crash.CoredumpDestroy = refl
crash_back crash.CoredumpRestart = refl
