-- Payloads read item by item: what is read is spelled so, and what is spelled so is read.
use Rattle.std.proofs.Common.{◌≡◌, ℕ, ◌+◌, Bool, true, false, cond, eqb, List, [], ◌++◌, length, Option, None, Some, Result, Ok, Err, refl, sym, ap, subst, ◌∙◌, arith}
use Rattle.std.proofs.lemmas.Bool.{eqb-true}
use Rattle.std.proofs.lemmas.List.{append-nil, length-append, nil_from_length}
use Rattle.wire_spec.specs.declared.fault.XdrFault.{XdrFault}
use Rattle.wire_spec.specs.declared.fault.XdrFault.TheVariants.{Extra}
use Rattle.wire_spec.specs.XdrAnswer.{Takes}
use Rattle.wire_spec.specs.XdrReading.{IsBytes, Left, all_of}
use Rattle.wire_spec.proofs.Items.{IsItem, taken}
use Rattle.procedure_spec.specs.Faults.{xdr}
use Rattle.procedure_spec.specs.Reading.{◌>>=◌, all, ended, item, unless}
use Rattle.procedure_spec.specs.declared.fault.ArgFault.{ArgFault}
use Rattle.procedure_spec.specs.declared.fault.ArgFault.TheVariants.{Xdr}

-- ---- steps

pub bind_ok : {A B : Type 0} (r : Result A ArgFault) (f : A → Result B ArgFault) (y : B) → (r >>= f) ≡ Ok y → (x : A) × (r ≡ Ok x) × (f x ≡ Ok y)
bind_ok (Ok x) f y e = (x, refl, e)
bind_ok (Err d) f y e = absurd cc

pub unless_ok : {A : Type 0} (fault : Option ArgFault) (x y : A) → unless fault x ≡ Ok y → (fault ≡ None) × (x ≡ y)
unless_ok None x y e = (refl, cc)
unless_ok (Some f) x y e = absurd cc

abbrev done : {A : Type 0} → A → Result A ArgFault
done x = Ok x

pub ok_is : {A : Type 0} (x y : A) → done x ≡ done y → x ≡ y
ok_is x y e = cc

xdr_ok : {A : Type 0} (r : Result A XdrFault) (x : A) → xdr r ≡ Ok x → r ≡ Ok x
xdr_ok (Ok y) x e = let same : y ≡ x = cc in ap (λ z. Ok z) same
xdr_ok (Err f) x e = absurd cc

pub after_both : (a b : List ℕ) (place : ℕ) → place + length a + length b ≡ place + length (a ++ b)
after_both a b place = omega (arith, length-append a b)

-- ---- parts of a payload

-- what is read is a value and is spelled so, and what is spelled so is read
pub record IsPart {A : Type 0} (IsValue : A → Type 0) (spelled : A → List ℕ) (first : Left → Result (A × Left) ArgFault) : Type 0 where
  pub found : (l : Left) (x : A × Left) → IsBytes l.bytes → first l ≡ Ok x → IsValue x.0 × Takes l (spelled x.0) x.1 × IsBytes x.1.bytes
  pub again : (l : Left) (v : A) (rest : List ℕ) → IsValue v → l.bytes ≡ spelled v ++ rest → first l ≡ Ok (taken l v (spelled v) rest)

pub IsPart-item : {A : Type 0} (IsValue : A → Type 0) (spelled : A → List ℕ) (first : Left → Result (A × Left) XdrFault) → IsItem IsValue spelled first → IsPart IsValue spelled (item first)
IsPart-item IsValue spelled first it = record {
  found = λ l x fits e. it.found l x fits (xdr_ok (first l) x e);
  again = λ l v rest value e. rw (it.again l v rest value e) refl;
}

-- another way to write the spelling
pub IsPart-as : {A : Type 0} (IsValue : A → Type 0) (one other : A → List ℕ) (first : Left → Result (A × Left) ArgFault) → ((a : A) → one a ≡ other a) → IsPart IsValue one first → IsPart IsValue other first
IsPart-as IsValue one other first same part = record {
  found = λ l x fits e. let f = part.found l x fits e in (f.0, subst (λ (s : List ℕ). Takes l s x.1) (same x.0) f.1, f.2);
  again = λ l v rest value e. subst (λ (s : List ℕ). first l ≡ Ok (taken l v s rest)) (same v) (part.again l v rest value (e ∙ ap (λ (s : List ℕ). s ++ rest) (sym (same v))));
}

-- ---- whole payloads

ended_by : {A : Type 0} (x : A × Left) (v : A) (b : Bool) → eqb (length x.1.bytes) 0 ≡ b → cond b (done x.0) (Err (Xdr (Extra x.1.place))) ≡ Ok v → (x.1.bytes ≡ []) × (x.0 ≡ v)
ended_by x v true t e = (nil_from_length x.1.bytes (eqb-true _ _ t), ok_is x.0 v e)
ended_by x v false t e = absurd cc

ended_ok : {A : Type 0} (x : A × Left) (v : A) → ended x ≡ Ok v → (x.1.bytes ≡ []) × (x.0 ≡ v)
ended_ok x v e = ended_by x v (eqb (length x.1.bytes) 0) refl e

pub all_found : {A : Type 0} (IsValue : A → Type 0) (spelled : A → List ℕ) (first : Left → Result (A × Left) ArgFault) → IsPart IsValue spelled first → (payload : List ℕ) (v : A) → IsBytes payload → all first payload ≡ Ok v → IsValue v × (payload ≡ spelled v)
unfolding all
all_found {A = A} IsValue spelled first part payload v fits e =
    let a = bind_ok (first (all_of payload)) ended v e in
    let f = part.found (all_of payload) a.0 fits a.1 in
    let g = ended_ok a.0 v a.2 in
    let whole : payload ≡ spelled a.0.0 = f.1.parts ∙ ap (λ (t : List ℕ). spelled a.0.0 ++ t) g.0 ∙ append-nil (spelled a.0.0) in
    subst (λ (y : A). IsValue y × (payload ≡ spelled y)) g.1 (f.0, whole)

pub all_again : {A : Type 0} (IsValue : A → Type 0) (spelled : A → List ℕ) (first : Left → Result (A × Left) ArgFault) → IsPart IsValue spelled first → (payload : List ℕ) (v : A) → IsValue v → payload ≡ spelled v → all first payload ≡ Ok v
unfolding all
all_again IsValue spelled first part payload v value e =
    rw (part.again (all_of payload) v [] value (e ∙ sym (append-nil (spelled v)))) refl

-- ---- a value made of a part

abbrev pub made : {A B : Type 0} → (A → B) → (Left → Result (A × Left) ArgFault) → Left → Result (B × Left) ArgFault
made f first l = first l >>= λ x. Ok (f x.0, x.1)

pub record IsMade {A B : Type 0} (IsValue : A → Type 0) (spelled : A → List ℕ) (f : A → B) (payload : List ℕ) (v : B) : Type 0 where
  pub a : A
  pub is : f a ≡ v
  pub value : IsValue a
  pub whole : payload ≡ spelled a

pub made_found : {A B : Type 0} (IsValue : A → Type 0) (spelled : A → List ℕ) (first : Left → Result (A × Left) ArgFault) (f : A → B) → IsPart IsValue spelled first → (payload : List ℕ) (v : B) → IsBytes payload → all (made f first) payload ≡ Ok v → IsMade IsValue spelled f payload v
unfolding all
made_found IsValue spelled first f part payload v fits e =
    let a = bind_ok (made f first (all_of payload)) ended v e in
    let b = bind_ok (first (all_of payload)) (λ x. Ok (f x.0, x.1)) a.0 a.1 in
    let same = ok_is (f b.0.0, b.0.1) a.0 b.2 in
    let g = ended_ok a.0 v a.2 in
    let found = part.found (all_of payload) b.0 fits b.1 in
    let nothing : b.0.1.bytes ≡ [] = ap (λ y. y.1.bytes) same ∙ g.0 in
    record {
      a = b.0.0;
      is = ap (λ y. y.0) same ∙ g.1;
      value = found.0;
      whole = found.1.parts ∙ ap (λ (t : List ℕ). spelled b.0.0 ++ t) nothing ∙ append-nil (spelled b.0.0);
    }

pub made_again : {A B : Type 0} (IsValue : A → Type 0) (spelled : A → List ℕ) (first : Left → Result (A × Left) ArgFault) (f : A → B) → IsPart IsValue spelled first → (payload : List ℕ) (a : A) → IsValue a → payload ≡ spelled a → all (made f first) payload ≡ Ok (f a)
unfolding all
made_again IsValue spelled first f part payload a value e =
    rw (part.again (all_of payload) a [] value (e ∙ sym (append-nil (spelled a)))) refl
