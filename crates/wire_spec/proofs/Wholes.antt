-- Optional items, whole payloads, and what an answer that reading gives says of spellings.
use Rattle.std.proofs.Common.{◌≡◌, ℕ, ◌+◌, Bool, true, false, cond, eqb, List, [], ◌++◌, length, Option, Some, None, Result, Ok, Err, refl, sym, ap, subst, ◌∙◌, append_assoc, arith}
use Rattle.std.specs.Prelude.{IfSome}
use Rattle.std.proofs.lemmas.Bool.{eqb-true}
use Rattle.std.proofs.lemmas.List.{append-nil, length-append, nil_from_length}
use Rattle.types_base.specs.declared.memory.OrNoMemory.{OrNoMemory}
use Rattle.types_base.specs.declared.memory.OrNoMemory.TheVariants.{Fault, NoMemory}
use Rattle.wire_spec.specs.declared.fault.XdrFault.{XdrFault}
use Rattle.wire_spec.specs.declared.fault.XdrFault.TheVariants.{Extra}
use Rattle.wire_spec.specs.Xdr.{word, truth, optional}
use Rattle.wire_spec.specs.XdrAnswer.{Answers, AnswersOrNoMemory, Reads, ReadsOrNoMemory, Takes}
use Rattle.wire_spec.specs.XdrReading.{IsBytes, Left, ◌>>=◌, all_of, first_optional, first_truth, whole}
use Rattle.wire_spec.proofs.Seen.{IsItem-truth}
use Rattle.wire_spec.proofs.Items.{IsItem, taken}
use Rattle.wire_spec.proofs.Steps.{Takes-then, bind_ok, ok_is}

-- ---- optional items

abbrev behind_flag : {A : Type 0} → (Left → Result (A × Left) XdrFault) → Bool → Left → Result (Option A × Left) XdrFault
behind_flag first there r = cond there (first r >>= λ x. Ok (Some x.0, x.1)) (Ok (None, r))

flag_found : {A : Type 0} (IsValue : A → Type 0) (spelled : A → List ℕ) (first : Left → Result (A × Left) XdrFault) → IsItem IsValue spelled first → (l r : Left) (there : Bool) (x : Option A × Left) → IsBytes r.bytes → Takes l (truth there) r → behind_flag first there r ≡ Ok x → IfSome x.0 IsValue × Takes l (optional spelled x.0) x.1 × IsBytes x.1.bytes
flag_found {A = A} IsValue spelled first item l r true x fits taken_flag e =
    let a = bind_ok (first r) (λ v. Ok (Some v.0, v.1)) x e in
    let f = item.found r a.0 fits a.1 in
    let made : IsValue a.0.0 × Takes l (word 1 ++ spelled a.0.0) a.0.1 × IsBytes a.0.1.bytes = (f.0, Takes-then l r a.0.1 (word 1) (spelled a.0.0) taken_flag f.1, f.2) in
    subst (λ (y : Option A × Left). IfSome y.0 IsValue × Takes l (optional spelled y.0) y.1 × IsBytes y.1.bytes) (ok_is (Some a.0.0, a.0.1) x a.2) made
flag_found {A = A} IsValue spelled first item l r false x fits taken_flag e =
    subst (λ (y : Option A × Left). IfSome y.0 IsValue × Takes l (optional spelled y.0) y.1 × IsBytes y.1.bytes) (ok_is (None, r) x e) (tt, taken_flag, fits)

optional_found : {A : Type 0} (IsValue : A → Type 0) (spelled : A → List ℕ) (first : Left → Result (A × Left) XdrFault) → IsItem IsValue spelled first → (l : Left) (x : Option A × Left) → IsBytes l.bytes → first_optional first l ≡ Ok x → IfSome x.0 IsValue × Takes l (optional spelled x.0) x.1 × IsBytes x.1.bytes
unfolding first_optional
optional_found IsValue spelled first item l x fits e =
    let a = bind_ok (first_truth l) (λ t. behind_flag first t.0 t.1) x e in
    let t = IsItem-truth.found l a.0 fits a.1 in
    flag_found IsValue spelled first item l a.0.1 a.0.0 x t.2 t.1 a.2

behind_both : (a b : List ℕ) (place : ℕ) → place + length a + length b ≡ place + length (a ++ b)
behind_both a b place = omega (arith, length-append a b)

optional_again : {A : Type 0} (IsValue : A → Type 0) (spelled : A → List ℕ) (first : Left → Result (A × Left) XdrFault) → IsItem IsValue spelled first → (l : Left) (v : Option A) (rest : List ℕ) → IfSome v IsValue → l.bytes ≡ optional spelled v ++ rest → first_optional first l ≡ Ok (taken l v (optional spelled v) rest)
unfolding first_optional
optional_again IsValue spelled first item l None rest value e = rw (IsItem-truth.again l false rest tt e) refl
optional_again IsValue spelled first item l (Some v) rest value e =
    let flag = IsItem-truth.again l true (spelled v ++ rest) tt (e ∙ append_assoc (word 1) (spelled v) rest) in
    let second = item.again (taken l true (word 1) (spelled v ++ rest)).1 v rest value refl in
    rw (flag, second, behind_both (word 1) (spelled v) l.place) refl

pub IsItem-optional : {A : Type 0} (IsValue : A → Type 0) (spelled : A → List ℕ) (first : Left → Result (A × Left) XdrFault) → IsItem IsValue spelled first → IsItem (λ v. IfSome v IsValue) (optional spelled) (first_optional first)
IsItem-optional IsValue spelled first item = record {
  found = optional_found IsValue spelled first item;
  again = optional_again IsValue spelled first item;
}

-- ---- whole payloads

ended : {A : Type 0} (b : Bool) (f : XdrFault) (x y : A) → cond b (Ok x) (Err f) ≡ Ok y → (b ≡ true) × (x ≡ y)
ended true f x y e = (refl, cc)
ended false f x y e = absurd cc

-- what is read of a whole payload is spelled so
pub whole_found : {A : Type 0} (IsValue : A → Type 0) (spelled : A → List ℕ) (first : Left → Result (A × Left) XdrFault) → IsItem IsValue spelled first → (payload : List ℕ) (v : A) → IsBytes payload → whole first payload ≡ Ok v → IsValue v × (payload ≡ spelled v)
unfolding whole
whole_found {A = A} IsValue spelled first item payload v fits e =
    let a = bind_ok (first (all_of payload)) (λ x. cond (eqb (length x.1.bytes) 0) (Ok x.0) (Err (Extra x.1.place))) v e in
    let g = ended (eqb (length a.0.1.bytes) 0) (Extra a.0.1.place) a.0.0 v a.2 in
    let f = item.found (all_of payload) a.0 fits a.1 in
    let nothing : a.0.1.bytes ≡ [] = nil_from_length a.0.1.bytes (eqb-true _ _ g.0) in
    let all : payload ≡ spelled a.0.0 = f.1.parts ∙ ap (λ (t : List ℕ). spelled a.0.0 ++ t) nothing ∙ append-nil (spelled a.0.0) in
    subst (λ (y : A). IsValue y × (payload ≡ spelled y)) g.1 (f.0, all)

-- a whole payload that is spelled so is read
pub whole_again : {A : Type 0} (IsValue : A → Type 0) (spelled : A → List ℕ) (first : Left → Result (A × Left) XdrFault) → IsItem IsValue spelled first → (payload : List ℕ) (v : A) → IsValue v → payload ≡ spelled v → whole first payload ≡ Ok v
unfolding whole
whole_again IsValue spelled first item payload v value e =
    let a = item.again (all_of payload) v [] value (e ∙ sym (append-nil (spelled v))) in
    rw a refl

-- ---- answers

same_value : {A : Type 0} (r : Result (A × Left) XdrFault) (x y : A × Left) → r ≡ Ok x → r ≡ Ok y → x.0 ≡ y.0
same_value {A = A} r x y e g = ap (λ (z : A × Left). z.0) (ok_is x y (sym e ∙ g))

-- what reading gives is a value exactly where one is spelled
pub answers : {A : Type 0} (IsValue : A → Type 0) (spelled : A → List ℕ) (first : Left → Result (A × Left) XdrFault) → IsItem IsValue spelled first → (old new : Left) (result : Result A XdrFault) → IsBytes old.bytes → Reads first old result new → Answers IsValue spelled old result new
answers {A = A} IsValue spelled first item old new (Ok x) fits reads =
    let f = item.found old (x, new) fits reads in
    record { found = (f.0, f.1); only = λ v rest value e. ap (λ (y : A). Ok y) (same_value (first old) (x, new) _ reads (item.again old v rest value e)) }
answers IsValue spelled first item old new (Err f) fits reads =
    record { found = tt; only = λ v rest value e. let again = item.again old v rest value e in absurd (cc (again, reads.0)) }

no_value : {A : Type 0} (r : Result A XdrFault) (f : XdrFault) (x : A) → r ≡ Err f → r ≡ Ok x → ⊥
no_value r f x e g = cc (e, g)

-- the same of a value that takes memory
pub answers_or_no_memory : {A : Type 0} (IsValue : A → Type 0) (spelled : A → List ℕ) (first : Left → Result (A × Left) XdrFault) → IsItem IsValue spelled first → (old new : Left) (result : Result A (OrNoMemory XdrFault)) → IsBytes old.bytes → ReadsOrNoMemory first old result new → AnswersOrNoMemory IsValue spelled old result new
answers_or_no_memory IsValue spelled first item old new (Ok x) fits reads =
    let f = item.found old (x, new) fits reads in
    record { found = (f.0, f.1); only = λ v rest value e. sym (ap (λ (y : _). Ok y) (same_value (first old) (x, new) _ reads (item.again old v rest value e))) }
answers_or_no_memory IsValue spelled first item old new (Err (Fault f)) fits reads =
    record { found = tt; only = λ v rest value e. let again = item.again old v rest value e in absurd (no_value (first old) f _ reads.0 again) }
answers_or_no_memory IsValue spelled first item old new (Err NoMemory) fits reads =
    record { found = tt; only = λ v rest value e. tt }
