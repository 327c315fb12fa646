-- Lists of replies are read where they are spelled, and what is read is spelled so.
use Rattle.std.proofs.Common.{◌≡◌, ℕ, zero, suc, ◌+◌, ◌≤◌, Bool, true, false, cond, ltb, List, [], ◌∷◌, ◌++◌, length, Option, None, Some, Result, Ok, refl, sym, ap, subst, append_assoc, arith, ◌∙◌}
use Rattle.std.specs.List.{AllByRecursion, flat_map}
use Rattle.std.proofs.lemmas.Bool.{ltb-false, le-ltb}
use Rattle.wire_spec.specs.Xdr.{word}
use Rattle.wire_spec.specs.XdrAnswer.{Takes}
use Rattle.wire_spec.specs.XdrReading.{IsBytes, Left, first_word}
use Rattle.wire_spec.specs.declared.fault.XdrFault.TheVariants.{TooLong}
use Rattle.wire_spec.proofs.Items.{taken}
use Rattle.wire_spec.proofs.Steps.{Takes-then}
use Rattle.procedure_spec.specs.ListsReading.{count_fault, first_count, first_entries, first_listed}
use Rattle.procedure_spec.specs.Reading.{◌>>=◌, item, unless}
use Rattle.procedure_spec.specs.ResultItems.{listed}
use Rattle.procedure_spec.specs.declared.fault.ArgFault.{ArgFault}
use Rattle.procedure_spec.specs.declared.fault.ArgFault.TheVariants as fault
use Rattle.procedure_spec.proofs.Parts.{IsPart, after_both, bind_ok, ok_is, unless_ok}
use Rattle.procedure_spec.proofs.ResultParts.{part_word}
use Rattle.procedure_spec.specs.declared.words.TheConstants.{NAMES_BOUND}

-- so many entries were read
record AreRead {A : Type 0} (IsEntry : A → Type 0) (spelled : A → List ℕ) (n : ℕ) (l : Left) (x : List A × Left) : Type 0 where
  count : length x.0 ≡ n
  all : AllByRecursion IsEntry x.0
  takes : Takes l (flat_map spelled x.0) x.1
  each : IsBytes x.1.bytes

entries_found : {A : Type 0} (IsEntry : A → Type 0) (spelled : A → List ℕ) (first : Left → Result (A × Left) ArgFault) → IsPart IsEntry spelled first → (n : ℕ) (l : Left) (x : List A × Left) → IsBytes l.bytes → first_entries first n l ≡ Ok x → AreRead IsEntry spelled n l x
unfolding first_entries
entries_found {A = A} IsEntry spelled first part zero l x fits e =
    let none : List A = [] in
    let here : AreRead IsEntry spelled 0 l (none, l) = record { count = refl; all = tt; takes = record { parts = refl; place = omega arith }; each = fits } in
    subst (λ (y : List A × Left). AreRead IsEntry spelled 0 l y) (ok_is (none, l) x e) here
entries_found {A = A} IsEntry spelled first part (suc n) l x fits e =
    let a = bind_ok (first l) (λ v. first_entries first n v.1 >>= λ more. Ok (v.0 ∷ more.0, more.1)) x e in
    let b = bind_ok (first_entries first n a.0.1) (λ more. Ok (a.0.0 ∷ more.0, more.1)) x a.2 in
    let f = part.found l a.0 fits a.1 in
    let g = entries_found IsEntry spelled first part n a.0.1 b.0 f.2 b.1 in
    let here : AreRead IsEntry spelled (suc n) l (a.0.0 ∷ b.0.0, b.0.1) = record {
      count = ap (λ (k : ℕ). suc k) g.count;
      all = (f.0, g.all);
      takes = Takes-then l a.0.1 b.0.1 (spelled a.0.0) (flat_map spelled b.0.0) f.1 g.takes;
      each = g.each;
    } in
    subst (λ (y : List A × Left). AreRead IsEntry spelled (suc n) l y) (ok_is (a.0.0 ∷ b.0.0, b.0.1) x b.2) here

entries_again : {A : Type 0} (IsEntry : A → Type 0) (spelled : A → List ℕ) (first : Left → Result (A × Left) ArgFault) → IsPart IsEntry spelled first → (n : ℕ) (l : Left) (xs : List A) (rest : List ℕ) → length xs ≡ n → AllByRecursion IsEntry xs → l.bytes ≡ flat_map spelled xs ++ rest → first_entries first n l ≡ Ok (taken l xs (flat_map spelled xs) rest)
unfolding first_entries
entries_again IsEntry spelled first part zero l [] rest len each e = let here : l.place ≡ l.place + 0 = omega arith in (λ i. Ok ([], record { place = here i; bytes = e i }))
entries_again IsEntry spelled first part zero l (x ∷ xs) rest len each e = absurd (omega (arith, len))
entries_again IsEntry spelled first part (suc n) l [] rest len each e = absurd (omega (arith, len))
entries_again IsEntry spelled first part (suc n) l (x ∷ xs) rest len each e =
    let f = part.again l x (flat_map spelled xs ++ rest) each.0 (e ∙ append_assoc (spelled x) (flat_map spelled xs) rest) in
    let g = entries_again IsEntry spelled first part n (taken l x (spelled x) (flat_map spelled xs ++ rest)).1 xs rest (omega (arith, len)) each.1 refl in
    rw (f, g, after_both (spelled x) (flat_map spelled xs) l.place) refl

few : (place count : ℕ) (b : Bool) → ltb NAMES_BOUND count ≡ b → (let o : Option ArgFault = cond b (Some (fault.Xdr (TooLong place count))) None in o ≡ None) → count ≤ NAMES_BOUND
few place count true t e = absurd cc
few place count false t e = ltb-false NAMES_BOUND count t

count_found : (l : Left) (x : ℕ × Left) → IsBytes l.bytes → first_count l ≡ Ok x → (x.0 ≤ NAMES_BOUND) × Takes l (word x.0) x.1 × IsBytes x.1.bytes
unfolding first_count
count_found l x fits e =
    let m = bind_ok (item first_word l) (λ n. unless (count_fault l.place n.0) n) x e in
    let f = part_word.found l m.0 fits m.1 in
    let u = unless_ok (count_fault l.place m.0.0) m.0 x m.2 in
    let le = few l.place m.0.0 (ltb NAMES_BOUND m.0.0) refl u.0 in
    subst (λ (y : ℕ × Left). (y.0 ≤ NAMES_BOUND) × Takes l (word y.0) y.1 × IsBytes y.1.bytes) u.1 (le, f.1, f.2)

count_again : (l : Left) (n : ℕ) (rest : List ℕ) → n ≤ NAMES_BOUND → l.bytes ≡ word n ++ rest → first_count l ≡ Ok (taken l n (word n) rest)
unfolding first_count
count_again l n rest le e =
    let off : ltb NAMES_BOUND n ≡ false = le-ltb _ _ le in
    rw (part_word.again l n rest (omega (arith, le)) e, off) refl

part_count : IsPart (λ n. n ≤ NAMES_BOUND) word first_count
part_count = record { found = count_found; again = count_again }

-- a list that is not too long, of entries that have a spelling
abbrev pub IsListed : {A : Type 0} → (A → Type 0) → List A → Type 0
IsListed IsEntry xs = (length xs ≤ NAMES_BOUND) × AllByRecursion IsEntry xs

listed_found : {A : Type 0} (IsEntry : A → Type 0) (spelled : A → List ℕ) (first : Left → Result (A × Left) ArgFault) → IsPart IsEntry spelled first → (l : Left) (x : List A × Left) → IsBytes l.bytes → first_listed first l ≡ Ok x → IsListed IsEntry x.0 × Takes l (listed spelled x.0) x.1 × IsBytes x.1.bytes
unfolding first_listed
listed_found IsEntry spelled first part l x fits e =
    let c = bind_ok (first_count l) (λ n. first_entries first n.0 n.1) x e in
    let f = part_count.found l c.0 fits c.1 in
    let g = entries_found IsEntry spelled first part c.0.0 c.0.1 x f.2 c.2 in
    let all : Takes l (word c.0.0 ++ flat_map spelled x.0) x.1 = Takes-then l c.0.1 x.1 (word c.0.0) (flat_map spelled x.0) f.1 g.takes in
    ((rw g.count f.0, g.all), subst (λ (n : ℕ). Takes l (word n ++ flat_map spelled x.0) x.1) (sym g.count) all, g.each)

listed_again : {A : Type 0} (IsEntry : A → Type 0) (spelled : A → List ℕ) (first : Left → Result (A × Left) ArgFault) → IsPart IsEntry spelled first → (l : Left) (xs : List A) (rest : List ℕ) → IsListed IsEntry xs → l.bytes ≡ listed spelled xs ++ rest → first_listed first l ≡ Ok (taken l xs (listed spelled xs) rest)
unfolding first_listed
listed_again IsEntry spelled first part l xs rest are e =
    let f = part_count.again l (length xs) (flat_map spelled xs ++ rest) are.0 (e ∙ append_assoc (word (length xs)) (flat_map spelled xs) rest) in
    let g = entries_again IsEntry spelled first part (length xs) (taken l (length xs) (word (length xs)) (flat_map spelled xs ++ rest)).1 xs rest refl are.1 refl in
    rw (f, g, after_both (word (length xs)) (flat_map spelled xs) l.place) refl

pub IsPart-listed : {A : Type 0} (IsEntry : A → Type 0) (spelled : A → List ℕ) (first : Left → Result (A × Left) ArgFault) → IsPart IsEntry spelled first → IsPart (IsListed IsEntry) (listed spelled) (first_listed first)
IsPart-listed IsEntry spelled first part = record { found = listed_found IsEntry spelled first part; again = listed_again IsEntry spelled first part }
