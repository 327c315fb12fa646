-- Integers and truth values: words that are seen as something else.
use Rattle.std.proofs.Common.{◌≡◌, ℕ, ◌^◌, ◌<◌, ◌==◌, Bool, true, false, cond, List, ◌++◌, Result, Ok, Err, refl, sym, subst, arith}
use Rattle.std.specs.Int.{w32, cast_signed, cast_unsigned}
use Rattle.std.proofs.Math.Facts.{Fits-lt-pow, Fits-of_lt, Fits-of_z, sfits_to_z}
use Rattle.std.proofs.lemmas.Bool.{eqb-true}
use Rattle.std.proofs.lemmas.Int.{of_z-to_z, to_z-of_z}
use Rattle.wire_spec.specs.declared.fault.XdrFault.{XdrFault}
use Rattle.wire_spec.specs.declared.fault.XdrFault.TheVariants.{Flag}
use Rattle.wire_spec.specs.Xdr.{word, integer, truth, IsInteger, IsTruth}
use Rattle.wire_spec.specs.XdrAnswer.{Takes}
use Rattle.wire_spec.specs.XdrReading.{IsBytes, Left, ◌>>=◌, first_integer, first_truth, first_word, truth_of}
use Rattle.wire_spec.proofs.Items.{IsItem, IsItem-word, taken}
use Rattle.wire_spec.proofs.Steps.{bind_ok, ok_is}

pub record IsSeen {A : Type 0} (IsValue : A → Type 0) (code : A → ℕ) (see : ℕ → ℕ → Result A XdrFault) : Type 0 where
  pub fits : (v : A) → IsValue v → code v < 2 ^ 32
  pub back : (place n : ℕ) (v : A) → n < 2 ^ 32 → see place n ≡ Ok v → IsValue v × (code v ≡ n)
  pub again : (place : ℕ) (v : A) → IsValue v → see place (code v) ≡ Ok v

abbrev seen : {A : Type 0} → (ℕ → ℕ → Result A XdrFault) → Left → Result (A × Left) XdrFault
seen see l = first_word l >>= λ w. see l.place w.0 >>= λ v. Ok (v, w.1)

seen_found : {A : Type 0} (IsValue : A → Type 0) (code : A → ℕ) (see : ℕ → ℕ → Result A XdrFault) → IsSeen IsValue code see → (l : Left) (x : A × Left) → IsBytes l.bytes → seen see l ≡ Ok x → IsValue x.0 × Takes l (word (code x.0)) x.1 × IsBytes x.1.bytes
seen_found {A = A} IsValue code see is l x fits e =
    let a = bind_ok (first_word l) (λ w. see l.place w.0 >>= λ v. Ok (v, w.1)) x e in
    let b = bind_ok (see l.place a.0.0) (λ v. Ok (v, a.0.1)) x a.2 in
    let w = IsItem-word.found l a.0 fits a.1 in
    let back = is.back l.place a.0.0 b.0 w.0 b.1 in
    let made : IsValue b.0 × Takes l (word (code b.0)) a.0.1 × IsBytes a.0.1.bytes = (back.0, rw back.1 w.1, w.2) in
    let same : (b.0, a.0.1) ≡ x = ok_is (b.0, a.0.1) x b.2 in
    subst (λ (y : A × Left). IsValue y.0 × Takes l (word (code y.0)) y.1 × IsBytes y.1.bytes) same made

seen_again : {A : Type 0} (IsValue : A → Type 0) (code : A → ℕ) (see : ℕ → ℕ → Result A XdrFault) → IsSeen IsValue code see → (l : Left) (v : A) (rest : List ℕ) → IsValue v → l.bytes ≡ word (code v) ++ rest → seen see l ≡ Ok (taken l v (word (code v)) rest)
seen_again IsValue code see is l v rest value e = rw (IsItem-word.again l (code v) rest (is.fits v value) e, is.again l.place v value) refl

signed_seen : IsSeen IsInteger (cast_unsigned w32) (λ place n. Ok (cast_signed w32 n))
signed_seen = record {
  fits = λ v value. Fits-lt-pow (Fits-of_z {w = w32} {z = v} value);
  back = λ place n v lt e. let same : cast_signed w32 n ≡ v = ok_is (cast_signed w32 n) v e in (subst IsInteger same (sfits_to_z {w = w32} {n = n} (Fits-of_lt lt)), rw (← same) (of_z-to_z w32 n lt));
  again = λ place v value. rw (to_z-of_z w32 v value) refl;
}

pub IsItem-integer : IsItem IsInteger integer first_integer
unfolding first_integer
IsItem-integer = record { found = seen_found IsInteger (cast_unsigned w32) _ signed_seen; again = seen_again IsInteger (cast_unsigned w32) _ signed_seen }

truth_back : (place n : ℕ) (v z o : Bool) → (n == 0) ≡ z → (n == 1) ≡ o → cond z (Ok false) (cond o (Ok true) (Err (Flag place))) ≡ Ok v → cond v 1 0 ≡ n
truth_back place n true true o ez eo e = absurd cc
truth_back place n false true o ez eo e = sym (eqb-true n 0 ez)
truth_back place n true false true ez eo e = sym (eqb-true n 1 eo)
truth_back place n false false true ez eo e = absurd cc
truth_back place n v false false ez eo e = absurd cc

truth_seen : IsSeen IsTruth (λ b. cond b 1 0) truth_of
truth_seen = record {
  fits = λ v value. elim v as (λ (b : Bool). cond b 1 0 < 2 ^ 32) [ true ↦ omega arith | false ↦ omega arith ];
  back = λ place n v lt e. (tt, truth_back place n v (n == 0) (n == 1) refl refl e);
  again = λ place v value. elim v as (λ (b : Bool). truth_of place (cond b 1 0) ≡ Ok b) [ true ↦ refl | false ↦ refl ];
}

pub IsItem-truth : IsItem IsTruth truth first_truth
unfolding first_truth
IsItem-truth = record { found = seen_found IsTruth (λ b. cond b 1 0) truth_of truth_seen; again = seen_again IsTruth (λ b. cond b 1 0) truth_of truth_seen }
