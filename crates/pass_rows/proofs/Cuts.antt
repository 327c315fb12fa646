-- Why a part can be cut off each pass, one after the other.
use Rattle.std.proofs.Common.{◌≡◌, ℕ, ◌+◌, ◌<◌, ◌≤◌, List, ◌∷◌, [], ◌++◌, length, map, take, drop, get_or, set, sym, ap, ◌∙◌, subst, arith}
use Rattle.std.specs.List.{All, AllZip}
use Rattle.std.proofs.lemmas.List.{get_or_default, get_or-map, take_more, length-map, length-take-le}
use Rattle.atomic_table.specs.Seated.{TableId}
use Rattle.turn_cell.specs.Meaning.{Meaning}
use Rattle.turn_cell.specs.Passes.{Passed, IsCutOff}
use Rattle.pass_rows.specs.Cutting.{cell_of, fewer, HasParts}
use Rattle.pass_rows.proofs.Lists.{found_at, changed_at, zip_push, zip_length}

module _ {T B M S : Type 0} (K : Meaning T B M S) where
  abbrev P : Type 0
  P = Passed B M S

  -- the pass that the loop finds at its place
  found : (xs now : List P) (i : ℕ) (x : P) → now ≡ map (fewer 1) (take i xs) ++ drop i xs → i < length xs → x ≡ get_or now i x → x ≡ get_or xs i x
  found xs now i x is in' e = e ∙ found_at (fewer 1) xs now i x is in'

  -- it is of the cell that is reached at that place
  pub is_own : {C : Type 0} (place : C → TableId) (cells : List C) (xs now : List P) (i : ℕ) (x : P) (cell : C) (reached : TableId) → map cell_of xs ≡ map place cells → now ≡ map (fewer 1) (take i xs) ++ drop i xs → i < length xs → x ≡ get_or now i x → cell ≡ get_or cells i cell → reached ≡ place cell → x.cell ≡ reached
  is_own place cells xs now i x cell reached own is in' e at reach =
      let here : x ≡ get_or xs i x = found xs now i x is in' e in
      let there : get_or (map place cells) i x.cell ≡ cell_of (get_or xs i x) = ap (λ (l : List TableId). get_or l i x.cell) (sym own) ∙ get_or-map cell_of xs i x x.cell in' in
      let long : i < length cells = subst (λ (n : ℕ). i < n) (sym (length-map xs cell_of) ∙ (ap length own ∙ length-map cells place)) in' in
      ap cell_of here ∙ (sym there ∙ (get_or-map place cells i cell x.cell long ∙ (ap place (sym at) ∙ sym reach)))

  -- it has the parts
  pub has_parts : (xs now : List P) (i : ℕ) (x : P) → All (HasParts 2) xs → now ≡ map (fewer 1) (take i xs) ++ drop i xs → i < length xs → x ≡ get_or now i x → 1 < x.parts
  has_parts xs now i x all is in' e =
      let here : x ≡ get_or xs i x = found xs now i x is in' e in
      let some : 2 ≤ (get_or xs i x).parts = all i x in' in
      omega (arith, some, ap (λ (p : P). p.parts) here)

  -- the loop goes on
  pub one_more : (xs now parts left : List P) (i : ℕ) (x new part : P) → left ≡ parts ++ part ∷ [] → now ≡ map (fewer 1) (take i xs) ++ drop i xs → i < length xs → x ≡ get_or now i x → AllZip (IsCutOff K) (take i xs) parts → new ≡ fewer 1 x → IsCutOff K x part → (set now i new ≡ map (fewer 1) (take (i + 1) xs) ++ drop (i + 1) xs) × AllZip (IsCutOff K) (take (i + 1) xs) left
  one_more xs now parts left i x new part put is in' e all by off =
      let here : x ≡ get_or xs i x = found xs now i x is in' e in (
        changed_at (fewer 1) xs now i x new is in' (by ∙ ap (fewer 1) here),
        subst (λ (l : List P). AllZip (IsCutOff K) l left) (sym (take_more xs i x in'))
            (subst (AllZip (IsCutOff K) (take i xs ++ get_or xs i x ∷ [])) (sym put) (zip_push (IsCutOff K) (take i xs) parts (get_or xs i x) part all (subst (λ (p : P). IsCutOff K p part) here off))),
      )

  -- there is room for what is cut off
  pub has_room : (xs parts : List P) (i room : ℕ) → AllZip (IsCutOff K) (take i xs) parts → i < length xs → length xs ≤ room → length parts < room
  has_room xs parts i room all in' fits =
      let same : length (take i xs) ≡ length parts = zip_length (IsCutOff K) (take i xs) parts all in
      let at : length (take i xs) ≡ i = length-take-le i xs (omega arith) in
      omega arith
