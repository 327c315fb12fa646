-- Items of an error that say what they have to.
use Rattle.std.proofs.Common.{◌≡◌, ℕ, ◌+◌, Bool, true, false, List, ◌++◌, length, Result, Ok, refl, subst, ◌∙◌, append_assoc}
use Rattle.wire_spec.specs.XdrAnswer.{Takes}
use Rattle.wire_spec.specs.XdrReading.{IsBytes, Left}
use Rattle.wire_spec.proofs.Steps.{Takes-then}
use Rattle.procedure_spec.specs.ErrorsReading.{told}
use Rattle.procedure_spec.specs.Reading.{◌>>=◌}
use Rattle.procedure_spec.specs.declared.fault.ArgFault.{ArgFault}
use Rattle.procedure_spec.proofs.Parts.{IsPart, after_both, bind_ok, ok_is}

-- what is left after an item
abbrev pub after : Left → List ℕ → List ℕ → Left
after l item rest = record { place = l.place + length item; bytes = rest }

-- what is passed over is spelled so, and what is spelled so is passed over
pub record IsTold (spelled : List ℕ) (first : Left → Result Left ArgFault) : Type 0 where
  pub found : (l r : Left) → IsBytes l.bytes → first l ≡ Ok r → Takes l spelled r × IsBytes r.bytes
  pub again : (l : Left) (rest : List ℕ) → l.bytes ≡ spelled ++ rest → first l ≡ Ok (after l spelled rest)

told_ok : (place : ℕ) (is : Bool) (l r : Left) → told place is l ≡ Ok r → (is ≡ true) × (l ≡ r)
told_ok place true l r e = (refl, ok_is l r e)
told_ok place false l r e = absurd cc

-- of a part that has one value here
pub IsTold-part : {A : Type 0} (IsValue : A → Type 0) (spelled : A → List ℕ) (first : Left → Result (A × Left) ArgFault) → IsPart IsValue spelled first → (v : A) (is : A → Bool) → IsValue v → is v ≡ true → ((a : A) → is a ≡ true → a ≡ v) → IsTold (spelled v) (λ l. first l >>= λ x. told l.place (is x.0) x.1)
IsTold-part {A = A} IsValue spelled first part v is value passes only = record {
  found = λ l r fits e.
      let m = bind_ok (first l) (λ x. told l.place (is x.0) x.1) r e in
      let f = part.found l m.0 fits m.1 in
      let t = told_ok l.place (is m.0.0) m.0.1 r m.2 in
      subst (λ (q : Left). Takes l (spelled v) q × IsBytes q.bytes) t.1 (subst (λ (a : A). Takes l (spelled a) m.0.1) (only m.0.0 t.0) f.1, f.2);
  again = λ l rest e. rw (part.again l v rest value e, passes) refl;
}

pub IsTold-then : (a b : List ℕ) (f g : Left → Result Left ArgFault) → IsTold a f → IsTold b g → IsTold (a ++ b) (λ l. f l >>= λ m. g m)
IsTold-then a b f g p q = record {
  found = λ l r fits e.
      let m = bind_ok (f l) (λ m. g m) r e in
      let t = p.found l m.0 fits m.1 in
      let u = q.found m.0 r t.1 m.2 in
      (Takes-then l m.0 r a b t.0 u.0, u.1);
  again = λ l rest e. rw (p.again l (b ++ rest) (e ∙ append_assoc a b rest), q.again (after l a (b ++ rest)) rest refl, after_both a b l.place) refl;
}

pub IsTold-as : (a b : List ℕ) (f : Left → Result Left ArgFault) → a ≡ b → IsTold a f → IsTold b f
IsTold-as a b f e p = subst (λ (s : List ℕ). IsTold s f) e p

-- a part with what has to come after it
pub IsPart-then : {A : Type 0} (IsValue : A → Type 0) (one other : A → List ℕ) (first : Left → Result (A × Left) ArgFault) (second : A → Left → Result Left ArgFault) → IsPart IsValue one first → ((a : A) → IsTold (other a) (second a)) → IsPart IsValue (λ a. one a ++ other a) (λ l. first l >>= λ x. second x.0 x.1 >>= λ r. Ok (x.0, r))
IsPart-then {A = A} IsValue one other first second part next = record {
  found = λ l x fits e.
      let m = bind_ok (first l) (λ x. second x.0 x.1 >>= λ r. Ok (x.0, r)) x e in
      let n = bind_ok (second m.0.0 m.0.1) (λ r. Ok (m.0.0, r)) x m.2 in
      let f = part.found l m.0 fits m.1 in
      let g = (next m.0.0).found m.0.1 n.0 f.2 n.1 in
      subst (λ (y : A × Left). IsValue y.0 × Takes l (one y.0 ++ other y.0) y.1 × IsBytes y.1.bytes) (ok_is (m.0.0, n.0) x n.2) (f.0, Takes-then l m.0.1 n.0 (one m.0.0) (other m.0.0) f.1 g.0, g.1);
  again = λ l v rest value e. rw (part.again l v (other v ++ rest) value (e ∙ append_assoc (one v) (other v) rest), (next v).again (after l (one v) (other v ++ rest)) rest refl, after_both (one v) (other v) l.place) refl;
}
