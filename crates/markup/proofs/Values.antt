-- The value of an attribute, a step at a time.
use Rattle.std.proofs.Common.{◌≡◌, ℕ, zero, suc, ◌≤◌, List, [], ◌∷◌, ◌++◌, length, Ok, Err, refl, sym, ap, arith, append_assoc, append-nil, eq-eqb, ne_eqb}
use Rattle.text_spec.specs.declared.fault.Flaw.{Flaw}
use Rattle.text_spec.specs.Reading.{Reading, ended}
use Rattle.text_spec.specs.Tag.{behind, value_char_at, value_at}

pub behind_behind : {A : Type 0} (front xs : List A) (r : Reading (List A)) → behind front (behind xs r) ≡ behind (front ++ xs) r
behind_behind front xs (Err f) = refl
behind_behind front xs (Ok v) = ap (λ ys. Ok (ys, v.1)) (sym (append_assoc front xs v.0))

module _ (told : Flaw) (q : ℕ) (front : List ℕ) where
  pub value_ended : (n : ℕ) (rest : List ℕ) → length rest ≡ 0 → behind front (value_at n told q rest) ≡ Err ended
  unfolding value_at
  value_ended zero rest e = refl
  value_ended (suc n) [] e = refl
  value_ended (suc n) (c ∷ cs) e = absurd (omega (arith, e))

  pub value_closed : (n c : ℕ) (rest cs : List ℕ) → rest ≡ c ∷ cs → length rest ≤ n → c ≡ q
      → behind front (value_at n told q rest) ≡ Ok (front, cs)
  unfolding value_at
  value_closed zero c rest cs e h same = absurd (omega (arith, ap length e))
  value_closed (suc n) c rest cs e h same = rw (e, eq-eqb c q same) (ap (λ xs. Ok (xs, cs)) (append-nil front))

  pub value_stops : (n c : ℕ) (rest cs : List ℕ) (f : Flaw) → rest ≡ c ∷ cs → length rest ≤ n → (c ≡ q → ⊥)
      → value_char_at told rest ≡ Err f → behind front (value_at n told q rest) ≡ Err f
  unfolding value_at
  value_stops zero c rest cs f e h other stop = absurd (omega (arith, ap length e))
  value_stops (suc n) c rest cs f e h other stop = let stopped = rw e at stop in rw (e, ne_eqb c q other, stopped)

  pub value_more : (n c x : ℕ) (rest cs after : List ℕ) → rest ≡ c ∷ cs → length rest ≤ n → (c ≡ q → ⊥)
      → value_char_at told rest ≡ Ok (x, after)
      → (m : ℕ) × (suc m ≡ n) × (behind front (value_at n told q rest) ≡ behind (front ++ x ∷ []) (value_at m told q after))
  unfolding value_at
  value_more zero c x rest cs after e h other next = absurd (omega (arith, ap length e))
  value_more (suc n) c x rest cs after e h other next =
      let following = rw e at next in
      (n, refl, rw (e, ne_eqb c q other, following) (behind_behind front (x ∷ []) (value_at n told q after)))
