-- The registration of a client, among those of a cell and among those of a pass.
use Rattle.std.proofs.Common.{◌≡◌, ℕ, ◌+◌, ◌==◌, ◌&&◌, ◌||◌, zero, suc, List, [], ◌∷◌, ◌++◌, filter, find, length, map, slice_get, refl, sym, ap, ◌∙◌, subst, Bool, true, false, if◌then◌else◌, Option, None, Some, eq-eqb}
use Rattle.std.specs.List.{list_any}
use Rattle.std.proofs.lemmas.Bool.{eqb-true}
use Rattle.domain_spec.specs.declared.mark.Mark.{Mark}
use Rattle.domain_spec.specs.declared.standing.Base.{Base}
use Rattle.domain_spec.specs.declared.standing.Registration.{Registration}
use Rattle.domain_spec.specs.Cell.{Taken}
use Rattle.domain_spec.specs.Registrations.{is_numbered, registrations_taken, taken_from, tells_loss}
use Rattle.core_owed.specs.Owing.{AreApart, EachIsOwed, IsOwed}
use Rattle.core_owed.specs.Taking.{taken_by}
use Rattle.core_owed.proofs.Apart.{HasNone, neither}
use Rattle.core_owed.proofs.Keeping.{found_is}

-- what it is owed

owed_if : (b : Base) (marks : List (Mark ℕ)) (mine : Bool) (x r : Registration) (rest : Option Registration) → IsOwed b marks x → (if mine then Some x else rest) ≡ Some r → (rest ≡ Some r → IsOwed b marks r) → IsOwed b marks r
owed_if b marks true x r rest one e more = let same : x ≡ r = cc in subst (λ (y : Registration). IsOwed b marks y) same one
owed_if b marks false x r rest one e more = more e

pub owed_found : (b : Base) (marks : List (Mark ℕ)) (rs : List Registration) (client : ℕ) (r : Registration) → EachIsOwed b marks rs → find (is_numbered client) rs ≡ Some r → IsOwed b marks r
owed_found b marks [] client r h e = cc
owed_found b marks (x ∷ rs) client r h e =
    owed_if b marks (is_numbered client x) x r (find (is_numbered client) rs) h.0 e (λ more. owed_found b marks rs client r h.1 more)

-- by its place

if_true : {A : Type 0} (b : Bool) (x y : A) → b ≡ true → (if b then x else y) ≡ x
if_true true x y e = refl
if_true false x y e = cc

if_false : {A : Type 0} (b : Bool) (x y : A) → b ≡ false → (if b then x else y) ≡ y
if_false true x y e = cc
if_false false x y e = refl

pub is_its : (client : ℕ) (r : Registration) → r.client ≡ client → is_numbered client r ≡ true
is_its client r e = eq-eqb r.client client e

not_both : (b : Bool) → b ≡ true → b ≡ false → ⊥
not_both true e f = cc
not_both false e f = cc

none_there : (client place : ℕ) (r : Registration) (rs : List Registration) → slice_get rs place ≡ Some r → r.client ≡ client → HasNone rs client → ⊥
none_there client zero r [] at is none = cc
none_there client (suc place) r [] at is none = cc
none_there client zero r (x ∷ rs) at is none =
    let same : x ≡ r = cc in
    not_both (is_numbered client x) (is_its client x (ap (λ (y : Registration). y.client) same ∙ is)) (neither (is_numbered client x) (list_any (is_numbered client) rs) none).0
none_there client (suc place) r (x ∷ rs) at is none = none_there client place r rs at is (neither (is_numbered client x) (list_any (is_numbered client) rs) none).1

other_first : (client place : ℕ) (r x : Registration) (rs : List Registration) → slice_get rs place ≡ Some r → r.client ≡ client → HasNone rs x.client → is_numbered client x ≡ false
other_first client place r x rs at is none = by (is_numbered client x) refl where
  by : (b : Bool) → is_numbered client x ≡ b → b ≡ false
  by true e = absurd (none_there x.client place r rs at (is ∙ sym (eqb-true x.client client e)) none)
  by false e = refl

pub found_at : (rs : List Registration) (client place : ℕ) (r : Registration) → AreApart rs → slice_get rs place ≡ Some r → r.client ≡ client → find (is_numbered client) rs ≡ Some r
found_at [] client zero r apart at is = cc
found_at [] client (suc place) r apart at is = cc
found_at (x ∷ rs) client zero r apart at is =
    let same : x ≡ r = cc in
    if_true (is_numbered client x) (Some x) (find (is_numbered client) rs) (is_its client x (ap (λ (y : Registration). y.client) same ∙ is)) ∙ ap (λ (y : Registration). Some y) same
found_at (x ∷ rs) client (suc place) r apart at is =
    if_false (is_numbered client x) (Some x) (find (is_numbered client) rs) (other_first client place r x rs at is apart.0) ∙ found_at rs client place r apart.1 at is

-- after it took

abbrev pub emptied : Registration → Registration
emptied r = record r { taken = r.taken + length r.pending; pending = [] }

first_taken : (lost mine : Bool) (client : ℕ) (r : Registration) (rs : List Registration) → lost ≡ false → is_numbered client r ≡ mine → mine ≡ true
    → find (is_numbered client) ((if lost then [] else emptied r ∷ []) ++ rs) ≡ Some (emptied r)
first_taken true mine client r rs e is its = cc
first_taken false mine client r rs e is its = if_true (is_numbered client r) (Some (emptied r)) (find (is_numbered client) rs) (is ∙ its)

taken_if : (mine : Bool) (client : ℕ) (x r : Registration) (rs more : List Registration) → is_numbered client x ≡ mine → (if mine then Some x else find (is_numbered client) rs) ≡ Some r → tells_loss r ≡ false
    → (find (is_numbered client) rs ≡ Some r → find (is_numbered client) more ≡ Some (emptied r))
    → find (is_numbered client) (if mine then taken_from x ++ rs else x ∷ more) ≡ Some (emptied r)
taken_if true client x r rs more is found quiet rest =
    let same : x ≡ r = cc in
    first_taken (tells_loss x) true client x rs (ap tells_loss same ∙ quiet) is refl ∙ ap (λ (y : Registration). Some (emptied y)) same
taken_if false client x r rs more is found quiet rest = if_false (is_numbered client x) (Some x) (find (is_numbered client) more) is ∙ rest found

pub found_taken : (rs : List Registration) (client : ℕ) (r : Registration) → find (is_numbered client) rs ≡ Some r → tells_loss r ≡ false → find (is_numbered client) (registrations_taken rs client) ≡ Some (emptied r)
found_taken [] client r found quiet = cc
found_taken (x ∷ rs) client r found quiet =
    taken_if (is_numbered client x) client x r rs (registrations_taken rs client) refl found quiet (λ e. found_taken rs client r e quiet)

gone_first : (told : Bool) (client : ℕ) (r : Registration) (rs : List Registration) → told ≡ true → HasNone rs client → HasNone ((if told then [] else emptied r ∷ []) ++ rs) client
gone_first true client r rs e none = none
gone_first false client r rs e none = cc

gone_if : (mine : Bool) (client : ℕ) (x r : Registration) (rs more : List Registration) → is_numbered client x ≡ mine → (if mine then Some x else find (is_numbered client) rs) ≡ Some r → tells_loss r ≡ true → HasNone rs x.client
    → (find (is_numbered client) rs ≡ Some r → HasNone more client) → HasNone (if mine then taken_from x ++ rs else x ∷ more) client
gone_if true client x r rs more is found told none rest =
    let same : x ≡ r = cc in
    gone_first (tells_loss x) client x rs (ap tells_loss same ∙ told) (subst (λ (k : ℕ). HasNone rs k) (eqb-true x.client client is) none)
gone_if false client x r rs more is found told none rest = ap (λ (b : Bool). b || list_any (is_numbered client) more) is ∙ rest found

pub gone_taken : (rs : List Registration) (client : ℕ) (r : Registration) → AreApart rs → find (is_numbered client) rs ≡ Some r → tells_loss r ≡ true → HasNone (registrations_taken rs client) client
gone_taken [] client r apart found told = refl
gone_taken (x ∷ rs) client r apart found told =
    gone_if (is_numbered client x) client x r rs (registrations_taken rs client) refl found told apart.0 (λ e. gone_taken rs client r apart.1 e told)

-- whether it is there

there_if : (mine more : Bool) (x r : Registration) (rest : Option Registration) → (if mine then Some x else rest) ≡ Some r → (rest ≡ Some r → more ≡ true) → (mine || more) ≡ true
there_if true more x r rest e h = refl
there_if false more x r rest e h = h e

pub is_there : (rs : List Registration) (client : ℕ) (r : Registration) → find (is_numbered client) rs ≡ Some r → list_any (is_numbered client) rs ≡ true
is_there [] client r found = cc
is_there (x ∷ rs) client r found = there_if (is_numbered client x) (list_any (is_numbered client) rs) x r (find (is_numbered client) rs) found (λ e. is_there rs client r e)

one_there : (mine more : Bool) (x : Registration) (rest : Option Registration) → (mine || more) ≡ true → (more ≡ true → (r : Registration) × (rest ≡ Some r)) → (r : Registration) × ((if mine then Some x else rest) ≡ Some r)
one_there true more x rest e h = (x, refl)
one_there false more x rest e h = h e

pub some_there : (rs : List Registration) (client : ℕ) → list_any (is_numbered client) rs ≡ true → (r : Registration) × (find (is_numbered client) rs ≡ Some r)
some_there [] client e = cc
some_there (x ∷ rs) client e = one_there (is_numbered client x) (list_any (is_numbered client) rs) x (find (is_numbered client) rs) e (λ more. some_there rs client more)

-- among those of a pass

-- a registration of this pass and client, of which so many were taken
pub record IsTheirs (n client taken : ℕ) (rs : List Registration) : Type 0 where
  pub one : Registration
  pub number : one.number ≡ n
  pub its : one.client ≡ client
  pub count : one.taken ≡ taken
  pub place : ℕ
  pub at : slice_get rs place ≡ Some one

later : (n client taken : ℕ) (x : Registration) (rs : List Registration) → IsTheirs n client taken rs → IsTheirs n client taken (x ∷ rs)
later n client taken x rs h = record { one = h.one; number = h.number; its = h.its; count = h.count; place = suc h.place; at = h.at }

abbrev takings : List Registration → List Taken
takings rs = map (λ r. record { client = r.client; taken = r.taken }) rs

taken_first : (mine : Bool) (n client taken : ℕ) (x : Registration) (rs : List Registration) (rest : Option ℕ) → (x.client == client) ≡ mine → x.number ≡ n → (if mine then Some x.taken else rest) ≡ Some taken
    → (rest ≡ Some taken → IsTheirs n client taken rs) → IsTheirs n client taken (x ∷ rs)
taken_first true n client taken x rs rest is number e more =
    let same : x.taken ≡ taken = cc in
    record { one = x; number = number; its = eqb-true x.client client is; count = same; place = zero; at = refl }
taken_first false n client taken x rs rest is number e more = later n client taken x rs (more e)

theirs_if : (own : Bool) (n client taken : ℕ) (x : Registration) (rs kept : List Registration) → (x.number == n) ≡ own → taken_by (takings (if own then x ∷ kept else kept)) client ≡ Some taken
    → (taken_by (takings kept) client ≡ Some taken → IsTheirs n client taken rs) → IsTheirs n client taken (x ∷ rs)
theirs_if true n client taken x rs kept is e more =
    taken_first (x.client == client) n client taken x rs (taken_by (takings kept) client) refl (eqb-true x.number n is) e more
theirs_if false n client taken x rs kept is e more = later n client taken x rs (more e)

pub theirs : (n client taken : ℕ) (rs : List Registration) → taken_by (takings (filter (λ r. r.number == n) rs)) client ≡ Some taken → IsTheirs n client taken rs
theirs n client taken [] e = cc
theirs n client taken (x ∷ rs) e =
    theirs_if (x.number == n) n client taken x rs (filter (λ r. r.number == n) rs) refl e (λ more. theirs n client taken rs more)

-- whose it is

pub found_is_its : (rs : List Registration) (client : ℕ) (r : Registration) → find (is_numbered client) rs ≡ Some r → r.client ≡ client
found_is_its rs client r found = eqb-true r.client client (found_is (is_numbered client) rs r found)

counted_if : (mine own : Bool) (n client : ℕ) (x r : Registration) (rs kept : List Registration) → is_numbered client x ≡ mine → (x.number == n) ≡ own → (if mine then Some x else find (is_numbered client) rs) ≡ Some r → r.number ≡ n
    → (find (is_numbered client) rs ≡ Some r → taken_by (takings kept) client ≡ Some r.taken) → taken_by (takings (if own then x ∷ kept else kept)) client ≡ Some r.taken
counted_if true true n client x r rs kept is number found its rest =
    let same : x ≡ r = cc in
    if_true (is_numbered client x) (Some x.taken) (taken_by (takings kept) client) is ∙ ap (λ (y : Registration). Some y.taken) same
counted_if true false n client x r rs kept is number found its rest =
    let same : x ≡ r = cc in
    absurd (not_both (x.number == n) (eq-eqb x.number n (ap (λ (y : Registration). y.number) same ∙ its)) number)
counted_if false true n client x r rs kept is number found its rest = if_false (is_numbered client x) (Some x.taken) (taken_by (takings kept) client) is ∙ rest found
counted_if false false n client x r rs kept is number found its rest = rest found

pub count_of : (n client : ℕ) (rs : List Registration) (r : Registration) → find (is_numbered client) rs ≡ Some r → r.number ≡ n → taken_by (takings (filter (λ r. r.number == n) rs)) client ≡ Some r.taken
count_of n client [] r found its = cc
count_of n client (x ∷ rs) r found its =
    counted_if (is_numbered client x) (x.number == n) n client x r rs (filter (λ r. r.number == n) rs) refl refl found its (λ e. count_of n client rs r e its)
