-- A definition's file is taken apart.
use Rattle.std.proofs.Common.{◌≡◌, ◌⊎◌, ◌<◌, ◌≤◌, ◌+◌, ◌++◌, ⊎_elim, Bool, true, false, cond, eqb, ◌||◌, List, [], ◌∷◌, ℕ, zero, suc, Option, None, Some, All, MatchOption, codes, decimal, length, take, drop, get_or, refl, sym, ◌∙◌, ap, subst, arith, append_assoc, length-append, ltb}
use Rattle.std.specs.List.{list_any, position, position_from, position_or_len}
use Rattle.std.proofs.lemmas.Bool.{eqb-true}
use Rattle.std.proofs.lemmas.Iterator.Adapters.{position_from-zero}
use Rattle.std.proofs.lemmas.List.{append_cancel_left}
use Rattle.std.specs.Borrow.{Bor}
use Rattle.store_spec.specs.DefinitionFile.{first_line, has_feed, line, line_feed, yes_or_no}
use Rattle.store_spec.proofs.Spelling.{flagged, labelled, same_flag}
use Rattle.store_reading.specs.Lines.{Cuts, Ends, HasFirst, HasFlag, HasLine, Strips, has}
use Rattle.store_reading.specs.declared.lines.FirstLine.{FirstLine}

true_false : true ≡ false → ⊥
true_false e = cc

or_true : (p q : Bool) → q ≡ true → (p || q) ≡ true
or_true true q is = refl
or_true false q is = is

or_false : (a b : Bool) → a ≡ false → b ≡ false → (a || b) ≡ false
or_false true b x y = cc
or_false false b x y = y

-- a mark that is there
mark_itself : (mark : ℕ) → eqb mark mark ≡ true
mark_itself mark = grind arith

pub mark_there : (mark : ℕ) (a rest : List ℕ) → has mark (a ++ mark ∷ rest) ≡ true
mark_there mark [] rest = ap (λ (b : Bool). b || has mark rest) (mark_itself mark)
mark_there mark (x ∷ a) rest = or_true (eqb x mark) (has mark (a ++ mark ∷ rest)) (mark_there mark a rest)

some_same : (a b : ℕ) → Some a ≡ Some b → a ≡ b
some_same a b is = cc

none_some : (a : ℕ) → None ≡ Some a → ⊥
none_some a is = cc

some_none : (a : ℕ) → Some a ≡ None → ⊥
some_none a is = cc

-- the parts before and after the first mark
pub record IsCut (mark : ℕ) (xs : List ℕ) (i : ℕ) : Type 0 where
  pub whole : xs ≡ take i xs ++ mark ∷ drop (i + 1) xs
  pub none : has mark (take i xs) ≡ false

cut_from : (mark : ℕ) (xs : List ℕ) (k i : ℕ) → position_from (λ b. eqb b mark) k xs ≡ Some i
    → (j : ℕ) × (i ≡ k + j) × (xs ≡ take j xs ++ mark ∷ drop (suc j) xs) × (has mark (take j xs) ≡ false)
cut_from mark [] k i is = absurd (none_some i is)
cut_from mark (x ∷ xs) k i is = by (λ got. cut_from mark xs (k + 1) i got) (eqb x mark) refl is
  where
    by : (position_from (λ c. eqb c mark) (k + 1) xs ≡ Some i → (j : ℕ) × (i ≡ k + 1 + j) × (xs ≡ take j xs ++ mark ∷ drop (suc j) xs) × (has mark (take j xs) ≡ false))
        → (b : Bool) → eqb x mark ≡ b → cond b (Some k) (position_from (λ c. eqb c mark) (k + 1) xs) ≡ Some i
        → (j : ℕ) × (i ≡ k + j) × ((x ∷ xs) ≡ take j (x ∷ xs) ++ mark ∷ drop (suc j) (x ∷ xs)) × (has mark (take j (x ∷ xs)) ≡ false)
    by more true same got = (0, omega (arith, some_same k i got), ap (λ (y : ℕ). y ∷ xs) (eqb-true x mark same), refl)
    by more false differ got = let r = more got in
        (suc r.0, omega (arith, r.1), ap (λ (l : List ℕ). x ∷ l) r.2, or_false (eqb x mark) (has mark (take r.0 xs)) differ r.3)

uncut_from : (mark : ℕ) (xs : List ℕ) (k : ℕ) → position_from (λ b. eqb b mark) k xs ≡ None → has mark xs ≡ false
uncut_from mark [] k is = refl
uncut_from mark (x ∷ xs) k is = by (λ got. uncut_from mark xs (k + 1) got) (eqb x mark) refl is
  where
    by : (position_from (λ c. eqb c mark) (k + 1) xs ≡ None → has mark xs ≡ false) → (b : Bool) → eqb x mark ≡ b → cond b (Some k) (position_from (λ c. eqb c mark) (k + 1) xs) ≡ None → (eqb x mark || has mark xs) ≡ false
    by more true same got = absurd (some_none k got)
    by more false differ got = or_false (eqb x mark) (has mark xs) differ (more got)

pub cut_at : (mark : ℕ) (xs : List ℕ) (i : ℕ) → position (λ b. eqb b mark) xs ≡ Some i → IsCut mark xs i
cut_at mark xs i is =
    let r = cut_from mark xs 0 i (sym (position_from-zero (λ b. eqb b mark) xs) ∙ is) in
    let same : r.0 ≡ i = omega (arith, r.1) in
    let next : suc r.0 ≡ i + 1 = omega (arith, r.1) in record {
      whole = r.2 ∙ (λ k. take (same k) xs ++ mark ∷ drop (next k) xs);
      none = subst (λ (j : ℕ). has mark (take j xs) ≡ false) same r.3;
    }

pub cut_none : (mark : ℕ) (xs : List ℕ) → position (λ b. eqb b mark) xs ≡ None → has mark xs ≡ false
cut_none mark xs is = uncut_from mark xs 0 (sym (position_from-zero (λ b. eqb b mark) xs) ∙ is)

-- a front, and a line with a label
pub strips_of : (front bytes : List ℕ) (r : Option (Bor (List ℕ))) → MatchOption r ((rest : List ℕ) → bytes ≡ front ++ rest → ⊥) (λ x. bytes ≡ front ++ x.now) → Strips front bytes r
strips_of front bytes None m = m
strips_of front bytes (Some x) m = m

pub ends_of : (ending bytes : List ℕ) (r : Option (Bor (List ℕ))) → MatchOption r ((rest : List ℕ) → bytes ≡ rest ++ ending → ⊥) (λ x. bytes ≡ x.now ++ ending) → Ends ending bytes r
ends_of ending bytes None m = m
ends_of ending bytes (Some x) m = m

pub line_of : (label bytes left : List ℕ) (r : Option (Bor (List ℕ) × Bor (List ℕ))) → bytes ≡ label ++ left → Cuts line_feed left r → HasLine label bytes r
line_of label bytes left None front none = λ value rest one is.
    let same : left ≡ value ++ line_feed ∷ rest = append_cancel_left label left (value ++ line_feed ∷ rest) (sym front ∙ is ∙ labelled label value rest) in
    true_false (sym (mark_there line_feed value rest) ∙ ap (λ (l : List ℕ). has line_feed l) (sym same) ∙ none)
line_of label bytes left (Some x) front cut = (front ∙ ap (λ (l : List ℕ). label ++ l) cut.0 ∙ sym (labelled label x.0.now x.1.now), cut.1)

pub line_none : (label bytes : List ℕ) → ((rest : List ℕ) → bytes ≡ label ++ rest → ⊥) → HasLine label bytes None
line_none label bytes never value rest one is = never (value ++ line_feed ∷ rest) (is ∙ labelled label value rest)

-- neither flag is there
pub flag_none : (bytes : List ℕ) → ((rest : List ℕ) → bytes ≡ codes "yes name=" ++ rest → ⊥) → ((rest : List ℕ) → bytes ≡ codes "no name=" ++ rest → ⊥) → HasFlag bytes None
flag_none bytes is_yes is_no true rest same = is_yes rest same
flag_none bytes is_yes is_no false rest same = is_no rest same

-- a flag and a name
pub flagged_none : (bytes : List ℕ) → HasFlag bytes None → HasFirst [] bytes None
flagged_none bytes never autostart name rest one is =
    never autostart (name ++ line_feed ∷ rest) (is ∙ flagged [] (yes_or_no autostart) (codes " name=") name rest)

pub flagged_uncut : (bytes left : List ℕ) (a : Bool) → bytes ≡ yes_or_no a ++ (codes " name=" ++ left) → has line_feed left ≡ false → HasFirst [] bytes None
flagged_uncut bytes left a front none autostart name rest one is =
    let flags = same_flag a autostart left (name ++ line_feed ∷ rest) (sym front ∙ is ∙ flagged [] (yes_or_no autostart) (codes " name=") name rest) in
    true_false (sym (mark_there line_feed name rest) ∙ ap (λ (l : List ℕ). has line_feed l) (sym flags.1) ∙ none)

pub flagged_some : (bytes left : List ℕ) (a : Bool) (name rest : List ℕ) → bytes ≡ yes_or_no a ++ (codes " name=" ++ left) → left ≡ name ++ line_feed ∷ rest → bytes ≡ first_line [] a name ++ rest
flagged_some bytes left a name rest front cut = front ∙ ap (λ (l : List ℕ). yes_or_no a ++ (codes " name=" ++ l)) cut ∙ sym (flagged [] (yes_or_no a) (codes " name=") name rest)

-- a front before it
first_split : (front : List ℕ) (a : Bool) (name rest : List ℕ) → first_line front a name ++ rest ≡ front ++ (first_line [] a name ++ rest)
first_split front a name rest = flagged front (yes_or_no a) (codes " name=") name rest ∙ ap (λ (l : List ℕ). front ++ l) (sym (flagged [] (yes_or_no a) (codes " name=") name rest))

pub first_of : (front bytes left : List ℕ) (r : Option FirstLine) → bytes ≡ front ++ left → HasFirst [] left r → HasFirst front bytes r
first_of front bytes left None is never = λ autostart name rest one same.
    never autostart name rest one (append_cancel_left front left (first_line [] autostart name ++ rest) (sym is ∙ same ∙ first_split front autostart name rest))
first_of front bytes left (Some f) is begun = (is ∙ ap (λ (l : List ℕ). front ++ l) begun.0 ∙ sym (first_split front f.autostart f.name.now f.rest.now), begun.1)

pub first_none : (front bytes : List ℕ) → ((rest : List ℕ) → bytes ≡ front ++ rest → ⊥) → HasFirst front bytes None
first_none front bytes never autostart name rest one is = never (first_line [] autostart name ++ rest) (is ∙ first_split front autostart name rest)
