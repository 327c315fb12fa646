-- Values by their shapes: what is read by a shape is a value of that shape, and is spelled so.
use Rattle.std.proofs.Common.{◌≡◌, ℕ, ◌+◌, List, [], ◌++◌, Result, Ok, refl, sym, subst, arith}
use Rattle.wire_spec.specs.declared.fault.XdrFault.{XdrFault}
use Rattle.wire_spec.specs.XdrAnswer.{Takes}
use Rattle.wire_spec.specs.XdrReading.{IsBytes, Left}
use Rattle.wire_spec.proofs.Items.{IsItem, taken}
use Rattle.wire_spec.proofs.Made.{made, made_found, two, two_found}
use Rattle.wire_spec.proofs.Steps.{ok_is}

-- what was read is of the shape, and is spelled so
pub record IsRead {B S : Type 0} (shaped : B → S) (IsValue : B → Type 0) (items : B → List ℕ) (s : S) (l : Left) (x : B × Left) : Type 0 where
  pub shape : shaped x.0 ≡ s
  pub is : IsValue x.0
  pub takes : Takes l (items x.0) x.1
  pub each : IsBytes x.1.bytes

pub nothing_read : {B S : Type 0} (shape : B → S) (IsValue : B → Type 0) (items : B → List ℕ) (s : S) (b : B) → shape b ≡ s → IsValue b → items b ≡ [] → (l : Left) (x : B × Left) → IsBytes l.bytes → (let here : Result (B × Left) XdrFault = Ok (b, l) in here ≡ Ok x) → IsRead shape IsValue items s l x
nothing_read {B = B} shape IsValue items s b of is none l x fits e =
    let takes : Takes l (items b) l = subst (λ (t : List ℕ). Takes l t l) (sym none) (record { parts = refl; place = omega arith }) in
    let here : IsRead shape IsValue items s l (b, l) = record { shape = of; is = is; takes = takes; each = fits } in
    subst (λ (y : B × Left). IsRead shape IsValue items s l y) (ok_is (b, l) x e) here

pub nothing_again : {B : Type 0} (b : B) (l : Left) (rest : List ℕ) → l.bytes ≡ [] ++ rest → (let here : Result (B × Left) XdrFault = Ok (b, l) in here ≡ Ok (taken l b [] rest))
nothing_again b l rest e = let here : l.place ≡ l.place + 0 = omega arith in (λ i. Ok (b, record { place = here i; bytes = e i }))

pub one_read : {A B S : Type 0} (shape : B → S) (IsValue : B → Type 0) (items : B → List ℕ) (s : S) (IsA : A → Type 0) (spelled : A → List ℕ) (first : Left → Result (A × Left) XdrFault) (f : A → B) → IsItem IsA spelled first → ((a : A) → IsA a → (shape (f a) ≡ s) × IsValue (f a)) → ((a : A) → items (f a) ≡ spelled a) → (l : Left) (x : B × Left) → IsBytes l.bytes → made f first l ≡ Ok x → IsRead shape IsValue items s l x
one_read {B = B} shape IsValue items s IsA spelled first f item of same l x fits e =
    let m = made_found IsA spelled first f item l x fits e in
    let value = of m.a m.value in
    record {
      shape = subst (λ (b : B). shape b ≡ s) (sym m.is) value.0;
      is = subst (λ (b : B). IsValue b) (sym m.is) value.1;
      takes = subst (λ (b : B). Takes l (items b) x.1) (sym m.is) (subst (λ (t : List ℕ). Takes l t x.1) (sym (same m.a)) m.taken);
      each = m.each;
    }

pub two_read : {A C B S : Type 0} (shape : B → S) (IsValue : B → Type 0) (items : B → List ℕ) (s : S) (IsA : A → Type 0) (spelled : A → List ℕ) (first : Left → Result (A × Left) XdrFault) (IsC : C → Type 0) (other : C → List ℕ) (second : Left → Result (C × Left) XdrFault) (f : A → C → B) → IsItem IsA spelled first → IsItem IsC other second → ((a : A) (c : C) → IsA a → IsC c → (shape (f a c) ≡ s) × IsValue (f a c)) → ((a : A) (c : C) → items (f a c) ≡ spelled a ++ other c) → (l : Left) (x : B × Left) → IsBytes l.bytes → two f first second l ≡ Ok x → IsRead shape IsValue items s l x
two_read {B = B} shape IsValue items s IsA spelled first IsC other second f item next of same l x fits e =
    let m = two_found IsA spelled first IsC other second f item next l x fits e in
    let value = of m.a m.b m.value.0 m.value.1 in
    record {
      shape = subst (λ (b : B). shape b ≡ s) (sym m.is) value.0;
      is = subst (λ (b : B). IsValue b) (sym m.is) value.1;
      takes = subst (λ (b : B). Takes l (items b) x.1) (sym m.is) (subst (λ (t : List ℕ). Takes l t x.1) (sym (same m.a m.b)) m.taken);
      each = m.each;
    }

-- a value of a shape
abbrev pub IsShaped : {B S : Type 0} → (B → S) → (B → Type 0) → S → B → Type 0
IsShaped shape IsValue s b = (shape b ≡ s) × IsValue b

pub item_shaped : {B S : Type 0} (shape : B → S) (IsValue : B → Type 0) (items : B → List ℕ) (first : S → Left → Result (B × Left) XdrFault) → ((s : S) (l : Left) (x : B × Left) → IsBytes l.bytes → first s l ≡ Ok x → IsRead shape IsValue items s l x) → ((l : Left) (b : B) (rest : List ℕ) → IsValue b → l.bytes ≡ items b ++ rest → first (shape b) l ≡ Ok (taken l b (items b) rest)) → (s : S) → IsItem (IsShaped shape IsValue s) items (first s)
item_shaped {S = S} shape IsValue items first read again s = record {
  found = λ l x fits e. let r = read s l x fits e in ((r.shape, r.is), r.takes, r.each);
  again = λ l b rest is e. subst (λ (k : S). first k l ≡ Ok (taken l b (items b) rest)) is.0 (again l b rest is.1 e);
}
