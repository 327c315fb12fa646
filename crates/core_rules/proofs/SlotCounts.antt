-- The slots of devices are as many in a row as there are devices.
use Rattle.std.proofs.Common.{◌≡◌, ℕ, ◌+◌, List, [], ◌∷◌, length, map, refl, ap, ◌∙◌, zero, suc, arith}
use Rattle.std.specs.List.{range_with_len}
use Rattle.std.proofs.lemmas.List.{length-append, length-map}
use Rattle.domain_spec.specs.Types.{DeviceDef, DomainDef}
use Rattle.domain_spec.specs.Devices.{devices_of, slots_at_start, slots_from}

slots_by_length : (n : ℕ) (devices : List DeviceDef) → slots_from n devices ≡ range_with_len n (length devices)
slots_by_length n [] = refl
slots_by_length n (d ∷ ds) = ap (λ more. n ∷ more) (slots_by_length (n + 1) ds)

count_of : (def : DomainDef) → length (devices_of def) ≡ length def.disks + length def.interfaces
count_of def = simp (length-append, length-map)

pub slots_by_count : (def : DomainDef) → slots_at_start def ≡ range_with_len 2 (length def.disks + length def.interfaces)
slots_by_count def = slots_by_length 2 (devices_of def) ∙ ap (range_with_len 2) (count_of def)

moved_on : (from n : ℕ) → map (λ i. i + 2) (range_with_len from n) ≡ range_with_len (from + 2) n
moved_on from zero = refl
moved_on from (suc n) =
    ap (λ more. (from + 2) ∷ more) (moved_on (from + 1) n ∙ ap (λ first. range_with_len first n) (omega arith))

-- numbers from 0 on, each two greater
pub two_on : (n : ℕ) → map (λ i. i + 2) (range_with_len 0 n) ≡ range_with_len 2 n
two_on n = moved_on 0 n
