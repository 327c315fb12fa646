-- One more caller in the table.
use Rattle.std.proofs.Common.{◌≡◌, ◌++◌, ◌∷◌, ◌<◌, ◌+◌, ◌-◌, [], List, ℕ, suc, false, length, take, replicate, set, refl, arith, sym, ◌∙◌, ap, length-append}
use Rattle.std.proofs.lemmas.List.{length-replicate, take_more_set}
use Rattle.domain_spec.specs.Open.{is_among}
use Rattle.domain_spec.specs.Types.{Who}
use Rattle.job_rules.specs.Table.{IsFilled, nobody, padded}
use Rattle.job_rules.proofs.Callers.{distinct_more}

-- the first place after the callers
set-padded : (cs : List Who) (m : ℕ) (who : Who) → set (cs ++ replicate (suc m) nobody) (length cs) who ≡ (cs ++ who ∷ []) ++ replicate m nobody
set-padded [] m who = refl
set-padded (c ∷ cs) m who = ap (λ rest. c ∷ rest) (set-padded cs m who)

padded_more : (cs : List Who) (who : Who) → length cs < 32 → set (padded cs) (length cs) who ≡ padded (cs ++ who ∷ [])
padded_more cs who room =
    let m = 32 - length (cs ++ who ∷ []) in
    let e : 32 - length cs ≡ suc m = omega (arith, length-append cs (who ∷ [])) in
    ap (λ n. set (cs ++ replicate n nobody) (length cs) who) e ∙ set-padded cs m who

-- a caller at the first free place, who is none of the others
pub filled_more : (places : List Who) (count : ℕ) (who : Who) → IsFilled places count → length (take count places) < 32 → is_among (take count places) who ≡ false → IsFilled (set places count who) (count + 1)
filled_more places count who filled room other =
    let callers = take count places in
    let size : length (padded callers) ≡ 32 = omega (arith, length-append callers (replicate (32 - length callers) nobody), length-replicate (32 - length callers) nobody, room) in
    let whole : length places ≡ 32 = ap length (sym filled.padding) ∙ size in
    let below : count < length places = omega (arith, filled.counted, room, whole) in
    let front : take (count + 1) (set places count who) ≡ take count places ++ who ∷ [] = take_more_set places count who below in
    record {
      within = omega (arith, filled.counted, room);
      counted = rw front (omega (arith, length-append callers (who ∷ []), filled.counted));
      padding = rw front (sym (padded_more callers who room) ∙ ap (λ at. set (padded callers) at who) filled.counted ∙ ap (λ all. set all count who) filled.padding);
      distinct = rw front (distinct_more callers who filled.distinct other);
    }
