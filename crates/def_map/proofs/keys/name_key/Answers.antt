use Rattle.std.proofs.Common.{◌≡◌, ◌<◌, ◌≤◌, ◌+◌, ◌-◌, ◌++◌, List, [], ◌∷◌, ℕ, ap, arith, length, refl, slice_set, take, ◌∙◌}
use Rattle.std.proofs.lemmas.Slice.{take-put_mid}
use Rattle.def_map.proofs.keys.name_key.Goals as goal

take_one : (xs : List ℕ) (v : ℕ) → 0 < length xs → take 1 (slice_set xs 0 v) ≡ v ∷ []
take_one [] v lt = absurd (omega (arith, lt))
take_one (x ∷ xs) v lt = refl

room : (xs : List ℕ) (v : ℕ) → 0 < length xs → 1 ≤ length (slice_set xs 0 v)
room [] v lt = absurd (omega (arith, lt))
room (x ∷ xs) v lt = omega arith

pub returns : goal.returns
returns c =
    let name = c.as_bytes-name.result.now in
    let some : 0 < length c.args.buffer.now = omega arith in
    take-put_mid 1 (length name + 1 - 1) (slice_set c.args.buffer.now 0 c.kind_byte.result) c.copy_from_slice.new.self (length name + 1) (omega (arith, ap (λ (l : List ℕ). length l) c.copy_from_slice.ensures.after)) (room c.args.buffer.now c.kind_byte.result some)
    ∙ (λ i. take_one c.args.buffer.now c.kind_byte.result some i ++ c.copy_from_slice.ensures.after i)
    ∙ (λ i. c.kind_byte.ensures i ∷ c.as_bytes-name.ensures.value i)
