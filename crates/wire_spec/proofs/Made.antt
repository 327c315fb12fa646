-- Values that are made of items, one after the other.
use Rattle.std.proofs.Common.{◌≡◌, ℕ, ◌+◌, List, ◌++◌, length, Result, Ok, Err, refl, sym, ap, subst, ◌∙◌, append_assoc, arith}
use Rattle.std.proofs.lemmas.List.{length-append}
use Rattle.wire_spec.specs.declared.fault.XdrFault.{XdrFault}
use Rattle.wire_spec.specs.XdrAnswer.{Takes}
use Rattle.wire_spec.specs.XdrReading.{IsBytes, Left, ◌>>=◌}
use Rattle.wire_spec.proofs.Items.{IsItem, taken}
use Rattle.wire_spec.proofs.Steps.{Takes-then, bind_ok, ok_is}

-- ---- of one item

abbrev pub made : {A B : Type 0} → (A → B) → (Left → Result (A × Left) XdrFault) → Left → Result (B × Left) XdrFault
made f first l = first l >>= λ x. Ok (f x.0, x.1)

pub record IsMade {A B : Type 0} (IsValue : A → Type 0) (spelled : A → List ℕ) (f : A → B) (l : Left) (x : B × Left) : Type 0 where
  pub a : A
  pub is : x.0 ≡ f a
  pub value : IsValue a
  pub taken : Takes l (spelled a) x.1
  pub each : IsBytes x.1.bytes

pub made_found : {A B : Type 0} (IsValue : A → Type 0) (spelled : A → List ℕ) (first : Left → Result (A × Left) XdrFault) (f : A → B) → IsItem IsValue spelled first → (l : Left) (x : B × Left) → IsBytes l.bytes → made f first l ≡ Ok x → IsMade IsValue spelled f l x
made_found {A = A} {B = B} IsValue spelled first f item l x fits e =
    let a = bind_ok (first l) (λ y. Ok (f y.0, y.1)) x e in
    let found = item.found l a.0 fits a.1 in
    let here : IsMade IsValue spelled f l (f a.0.0, a.0.1) = record { a = a.0.0; is = refl; value = found.0; taken = found.1; each = found.2 } in
    subst (λ (y : B × Left). IsMade IsValue spelled f l y) (ok_is (f a.0.0, a.0.1) x a.2) here

pub made_again : {A B : Type 0} (IsValue : A → Type 0) (spelled : A → List ℕ) (first : Left → Result (A × Left) XdrFault) (f : A → B) → IsItem IsValue spelled first → (l : Left) (a : A) (rest : List ℕ) → IsValue a → l.bytes ≡ spelled a ++ rest → made f first l ≡ Ok (taken l (f a) (spelled a) rest)
made_again IsValue spelled first f item l a rest value e = rw (item.again l a rest value e) refl

-- ---- of two items

abbrev pub two : {A B C : Type 0} → (A → B → C) → (Left → Result (A × Left) XdrFault) → (Left → Result (B × Left) XdrFault) → Left → Result (C × Left) XdrFault
two f first second l = first l >>= λ x. second x.1 >>= λ y. Ok (f x.0 y.0, y.1)

pub record IsTwo {A B C : Type 0} (IsA : A → Type 0) (one : A → List ℕ) (IsB : B → Type 0) (other : B → List ℕ) (f : A → B → C) (l : Left) (x : C × Left) : Type 0 where
  pub a : A
  pub b : B
  pub is : x.0 ≡ f a b
  pub value : IsA a × IsB b
  pub taken : Takes l (one a ++ other b) x.1
  pub each : IsBytes x.1.bytes

pub two_found : {A B C : Type 0} (IsA : A → Type 0) (one : A → List ℕ) (first : Left → Result (A × Left) XdrFault) (IsB : B → Type 0) (other : B → List ℕ) (second : Left → Result (B × Left) XdrFault) (f : A → B → C) → IsItem IsA one first → IsItem IsB other second → (l : Left) (x : C × Left) → IsBytes l.bytes → two f first second l ≡ Ok x → IsTwo IsA one IsB other f l x
two_found {A = A} {B = B} {C = C} IsA one first IsB other second f item next l x fits e =
    let a = bind_ok (first l) (λ y. second y.1 >>= λ z. Ok (f y.0 z.0, z.1)) x e in
    let b = bind_ok (second a.0.1) (λ z. Ok (f a.0.0 z.0, z.1)) x a.2 in
    let t = item.found l a.0 fits a.1 in
    let u = next.found a.0.1 b.0 t.2 b.1 in
    let here : IsTwo IsA one IsB other f l (f a.0.0 b.0.0, b.0.1) = record { a = a.0.0; b = b.0.0; is = refl; value = (t.0, u.0); taken = Takes-then l a.0.1 b.0.1 (one a.0.0) (other b.0.0) t.1 u.1; each = u.2 } in
    subst (λ (y : C × Left). IsTwo IsA one IsB other f l y) (ok_is (f a.0.0 b.0.0, b.0.1) x b.2) here

after_both : (a b : List ℕ) (place : ℕ) → place + length a + length b ≡ place + length (a ++ b)
after_both a b place = omega (arith, length-append a b)

pub two_again : {A B C : Type 0} (IsA : A → Type 0) (one : A → List ℕ) (first : Left → Result (A × Left) XdrFault) (IsB : B → Type 0) (other : B → List ℕ) (second : Left → Result (B × Left) XdrFault) (f : A → B → C) → IsItem IsA one first → IsItem IsB other second → (l : Left) (a : A) (b : B) (rest : List ℕ) → IsA a → IsB b → l.bytes ≡ (one a ++ other b) ++ rest → two f first second l ≡ Ok (taken l (f a b) (one a ++ other b) rest)
two_again IsA one first IsB other second f item next l a b rest value also e =
    let t = item.again l a (other b ++ rest) value (e ∙ append_assoc (one a) (other b) rest) in
    let u = next.again (taken l a (one a) (other b ++ rest)).1 b rest also refl in
    rw (t, u, after_both (one a) (other b) l.place) refl

-- ---- of two items, where a value that is not made of them is none

pub IsItem-two : {A B : Type 0} (IsA : A → Type 0) (one : A → List ℕ) (first : Left → Result (A × Left) XdrFault) (IsB : B → Type 0) (other : B → List ℕ) (second : Left → Result (B × Left) XdrFault) → IsItem IsA one first → IsItem IsB other second → IsItem {A = A × B} (λ x. IsA x.0 × IsB x.1) (λ x. one x.0 ++ other x.1) (two (λ a b. (a, b)) first second)
IsItem-two {A = A} {B = B} IsA one first IsB other second item next = record {
  found = λ l x fits e. let t = two_found IsA one first IsB other second (λ a b. (a, b)) item next l x fits e in (
    subst (λ (y : A × B). IsA y.0 × IsB y.1) (sym t.is) t.value,
    subst (λ (y : A × B). Takes l (one y.0 ++ other y.1) x.1) (sym t.is) t.taken,
    t.each,
  );
  again = λ l x rest value e. two_again IsA one first IsB other second (λ a b. (a, b)) item next l x.0 x.1 rest value.0 value.1 e;
}
