-- What a pass has taken for its registrations, after takings and ends.
use Rattle.std.proofs.Common.{◌≡◌, ℕ, ◌+◌, ◌==◌, ◌||◌, not, List, [], ◌∷◌, ◌++◌, filter, length, map, refl, sym, ap, ◌∙◌, subst, Bool, true, false, if◌then◌else◌, Some, eq-eqb}
use Rattle.std.specs.List.{list_any}
use Rattle.std.proofs.lemmas.Bool.{eqb-true}
use Rattle.domain_spec.specs.declared.standing.Registration.{Registration}
use Rattle.domain_spec.specs.Cell.{Taken}
use Rattle.domain_spec.specs.Registrations.{is_numbered}
use Rattle.domain_core.specs.Below.event_queue.Listening.{Listening, dropped_by, emptied, emptied_by, is_of, left_by, listening_of, registrations}
use Rattle.domain_core.specs.Below.core_owed.Owing.{AreApart}
use Rattle.domain_core.proofs.Below.core_owed.Apart.{HasNone, neither}
use Rattle.domain_core.specs.OfShares.{with_its, without_its}
use Rattle.domain_obj.specs.Clients.{takings_after}
use Rattle.domain_obj.proofs.Listened.{IsListener, dropped_if}

-- twice

again_first : (b : Bool) (client : ℕ) (x : Taken) (ts ys : List Taken) → (x.client == client) ≡ b → b ≡ true → (if x.client == client then ys ++ ts else x ∷ with_its ts client ys) ≡ ys ++ ts
again_first true client x ts ys is e = ap (λ (b : Bool). if b then ys ++ ts else x ∷ with_its ts client ys) is
again_first false client x ts ys is e = cc

again_if : (b : Bool) (client : ℕ) (x t : Taken) (ts ys : List Taken) → (t.client == client) ≡ b → (x.client == client) ≡ true → with_its (with_its ts client (x ∷ [])) client ys ≡ with_its ts client ys
    → with_its (if b then x ∷ [] ++ ts else t ∷ with_its ts client (x ∷ [])) client ys ≡ (if b then ys ++ ts else t ∷ with_its ts client ys)
again_if true client x t ts ys is its rest = again_first (x.client == client) client x ts ys refl its
again_if false client x t ts ys is its rest =
    ap (λ (b : Bool). if b then ys ++ with_its ts client (x ∷ []) else t ∷ with_its (with_its ts client (x ∷ [])) client ys) is ∙ ap (λ (zs : List Taken). t ∷ zs) rest

pub with_again : (ts : List Taken) (client : ℕ) (x : Taken) (ys : List Taken) → (x.client == client) ≡ true → with_its (with_its ts client (x ∷ [])) client ys ≡ with_its ts client ys
with_again [] client x ys its = refl
with_again (t ∷ ts) client x ys its = again_if (t.client == client) client x t ts ys refl its (with_again ts client x ys its)

-- and then it ends

drops_first : (client : ℕ) (x : Taken) (ts : List Taken) → (x.client == client) ≡ true → without_its (x ∷ ts) client ≡ without_its ts client
drops_first client x ts its = ap (λ (b : Bool). if not b then x ∷ without_its ts client else without_its ts client) its

ends_if : (b : Bool) (client : ℕ) (x t : Taken) (ts : List Taken) → (t.client == client) ≡ b → (x.client == client) ≡ true → without_its (with_its ts client (x ∷ [])) client ≡ without_its ts client
    → without_its (if b then x ∷ [] ++ ts else t ∷ with_its ts client (x ∷ [])) client ≡ (if not b then t ∷ without_its ts client else without_its ts client)
ends_if true client x t ts is its rest = drops_first client x ts its
ends_if false client x t ts is its rest =
    ap (λ (b : Bool). if not b then t ∷ without_its (with_its ts client (x ∷ [])) client else without_its (with_its ts client (x ∷ [])) client) is ∙ ap (λ (zs : List Taken). t ∷ zs) rest

pub then_without : (ts : List Taken) (client : ℕ) (x : Taken) → (x.client == client) ≡ true → without_its (with_its ts client (x ∷ [])) client ≡ without_its ts client
then_without [] client x its = refl
then_without (t ∷ ts) client x its = ends_if (t.client == client) client x t ts refl its (then_without ts client x its)

-- where no two are one client's

abbrev is_its : ℕ → Taken → Bool
is_its client t = t.client == client

abbrev AreSingle : List Taken → Type 0
AreSingle [] = Unit {0}
AreSingle (t ∷ ts) = (list_any (is_its t.client) ts ≡ false) × AreSingle ts

either : (a b : Bool) → (a || b) ≡ false → (a ≡ false) × (b ≡ false)
either true b e = cc
either false b e = (refl, e)

stays_if : (b : Bool) (t : Taken) (ts kept : List Taken) → b ≡ false → kept ≡ ts → (if not b then t ∷ kept else kept) ≡ t ∷ ts
stays_if true t ts kept e f = cc
stays_if false t ts kept e f = ap (λ (zs : List Taken). t ∷ zs) f

none_without : (ts : List Taken) (client : ℕ) → list_any (is_its client) ts ≡ false → without_its ts client ≡ ts
none_without [] client none = refl
none_without (t ∷ ts) client none =
    let both = either (is_its client t) (list_any (is_its client) ts) none in
    stays_if (t.client == client) t ts (without_its ts client) both.0 (none_without ts client both.1)

gone_if : (b : Bool) (client : ℕ) (t : Taken) (ts : List Taken) → (t.client == client) ≡ b → list_any (is_its t.client) ts ≡ false → with_its ts client [] ≡ without_its ts client
    → (if b then [] ++ ts else t ∷ with_its ts client []) ≡ (if not b then t ∷ without_its ts client else without_its ts client)
gone_if true client t ts is none rest = sym (none_without ts client (subst (λ (k : ℕ). list_any (is_its k) ts ≡ false) (eqb-true t.client client is) none))
gone_if false client t ts is none rest = ap (λ (zs : List Taken). t ∷ zs) rest

gone : (ts : List Taken) (client : ℕ) → AreSingle ts → with_its ts client [] ≡ without_its ts client
gone [] client single = refl
gone (t ∷ ts) client single = gone_if (t.client == client) client t ts refl single.0 (gone ts client single.1)

abbrev pub takings : List Registration → List Taken
takings rs = map (λ r. record { client = r.client; taken = r.taken }) rs

abbrev pub of_pass : ℕ → List Registration → List Taken
of_pass n rs = takings (filter (λ r. r.number == n) rs)

none_if : (b : Bool) (client : ℕ) (r : Registration) (kept : List Registration) → is_numbered client r ≡ false → list_any (is_its client) (takings kept) ≡ false → list_any (is_its client) (takings (if b then r ∷ kept else kept)) ≡ false
none_if true client r kept e none = ap (λ (b : Bool). b || list_any (is_its client) (takings kept)) e ∙ none
none_if false client r kept e none = none

none_of : (n client : ℕ) (rs : List Registration) → HasNone rs client → list_any (is_its client) (of_pass n rs) ≡ false
none_of n client [] none = refl
none_of n client (r ∷ rs) none =
    let both = neither (is_numbered client r) (list_any (is_numbered client) rs) none in
    none_if (r.number == n) client r (filter (λ x. x.number == n) rs) both.0 (none_of n client rs both.1)

single_if : (b : Bool) (r : Registration) (kept : List Registration) → list_any (is_its r.client) (takings kept) ≡ false → AreSingle (takings kept) → AreSingle (takings (if b then r ∷ kept else kept))
single_if true r kept none single = (none, single)
single_if false r kept none single = single

single : (n : ℕ) (rs : List Registration) → AreApart rs → AreSingle (of_pass n rs)
single n [] apart = tt
single n (r ∷ rs) apart = single_if (r.number == n) r (filter (λ x. x.number == n) rs) (none_of n r.client rs apart.0) (single n rs apart.1)

pub gone_of : (n client : ℕ) (rs : List Registration) → AreApart rs → with_its (of_pass n rs) client [] ≡ without_its (of_pass n rs) client
gone_of n client rs apart = gone (of_pass n rs) client (single n rs apart)

-- what pended was dropped, and a loss that was due

abbrev taking_of : Registration → Taken
taking_of r = record { client = r.client; taken = r.taken }

goes_if : (b : Bool) (client : ℕ) (r : Registration) (kept : List Registration) → (r.client == client) ≡ true → list_any (is_its client) (takings kept) ≡ false
    → takings kept ≡ without_its (takings (if b then r ∷ kept else kept)) client
goes_if true client r kept its none = sym (drops_first client (taking_of r) (takings kept) its ∙ none_without (takings kept) client none)
goes_if false client r kept its none = sym (none_without (takings kept) client none)

keeps_if : (b : Bool) (client : ℕ) (r : Registration) (left kept : List Registration) → (r.client == client) ≡ false → takings left ≡ without_its (takings kept) client
    → takings (if b then r ∷ left else left) ≡ without_its (takings (if b then r ∷ kept else kept)) client
keeps_if true client r left kept other e =
    ap (λ (ts : List Taken). taking_of r ∷ ts) e ∙ sym (ap (λ (b : Bool). if not b then taking_of r ∷ without_its (takings kept) client else without_its (takings kept) client) other)
keeps_if false client r left kept other e = e

left_if : (b : Bool) (n client : ℕ) (l : Listening) (ls : List Listening) → is_of client l ≡ b → HasNone (registrations ls) l.kept.client
    → of_pass n (registrations (left_by ls client)) ≡ without_its (of_pass n (registrations ls)) client
    → of_pass n (registrations (if b then ls else l ∷ left_by ls client)) ≡ without_its (of_pass n (l.kept ∷ registrations ls)) client
left_if true n client l ls is none rest =
    goes_if (l.kept.number == n) client l.kept (filter (λ x. x.number == n) (registrations ls)) is
    (none_of n client (registrations ls) (subst (λ (k : ℕ). HasNone (registrations ls) k) (eqb-true l.kept.client client is) none))
left_if false n client l ls is none rest =
    keeps_if (l.kept.number == n) client l.kept (filter (λ x. x.number == n) (registrations (left_by ls client))) (filter (λ x. x.number == n) (registrations ls)) is rest

left_takings : (n client : ℕ) (ls : List Listening) → AreApart (registrations ls) → of_pass n (registrations (left_by ls client)) ≡ without_its (of_pass n (registrations ls)) client
left_takings n client [] apart = refl
left_takings n client (l ∷ ls) apart = left_if (is_of client l) n client l ls refl apart.0 (left_takings n client ls apart.1)

abbrev all_taken : Registration → Registration
all_taken r = record r { taken = r.taken + length r.pending; pending = [] }

empties_if : (b : Bool) (client : ℕ) (r : Registration) (kept : List Registration) → b ≡ true → (r.client == client) ≡ true
    → takings (if b then all_taken r ∷ kept else kept) ≡ with_its (takings (if b then r ∷ kept else kept)) client (record { client = client; taken = r.taken + length r.pending } ∷ [])
empties_if true client r kept mine its =
    let x : Taken = record { client = client; taken = r.taken + length r.pending } in
    ap (λ (k : ℕ). (let t : Taken = record { client = k; taken = r.taken + length r.pending } in t) ∷ takings kept) (eqb-true r.client client its)
    ∙ sym (ap (λ (b : Bool). if b then x ∷ [] ++ takings kept else taking_of r ∷ with_its (takings kept) client (x ∷ [])) its)
empties_if false client r kept mine its = cc

stays_on_if : (b : Bool) (client : ℕ) (r : Registration) (now kept : List Registration) (x : Taken) → (r.client == client) ≡ false → takings now ≡ with_its (takings kept) client (x ∷ [])
    → takings (if b then r ∷ now else now) ≡ with_its (takings (if b then r ∷ kept else kept)) client (x ∷ [])
stays_on_if true client r now kept x other e =
    ap (λ (ts : List Taken). taking_of r ∷ ts) e ∙ sym (ap (λ (b : Bool). if b then x ∷ [] ++ takings kept else taking_of r ∷ with_its (takings kept) client (x ∷ [])) other)
stays_on_if false client r now kept x other e = e

abbrev its_now : ℕ → Registration → Taken
its_now client r = record { client = client; taken = r.taken + length r.pending }

emptied_if : (b : Bool) (n client : ℕ) (m l : Listening) (ls : List Listening) → is_of client m ≡ b → (if b then Some m else listening_of ls client) ≡ Some l → l.kept.number ≡ n
    → (listening_of ls client ≡ Some l → of_pass n (registrations (emptied_by ls client)) ≡ with_its (of_pass n (registrations ls)) client (its_now client l.kept ∷ []))
    → of_pass n (registrations (if b then emptied m ∷ ls else m ∷ emptied_by ls client)) ≡ with_its (of_pass n (m.kept ∷ registrations ls)) client (its_now client l.kept ∷ [])
emptied_if true n client m l ls is found number rest =
    let same : m ≡ l = cc in
    empties_if (m.kept.number == n) client m.kept (filter (λ x. x.number == n) (registrations ls)) (eq-eqb m.kept.number n (ap (λ (x : Listening). x.kept.number) same ∙ number)) is
    ∙ ap (λ (x : Listening). with_its (of_pass n (m.kept ∷ registrations ls)) client (its_now client x.kept ∷ [])) same
emptied_if false n client m l ls is found number rest =
    stays_on_if (m.kept.number == n) client m.kept (filter (λ x. x.number == n) (registrations (emptied_by ls client))) (filter (λ x. x.number == n) (registrations ls)) (its_now client l.kept) is (rest found)

emptied_takings : (n client : ℕ) (ls : List Listening) (l : Listening) → listening_of ls client ≡ Some l → l.kept.number ≡ n
    → of_pass n (registrations (emptied_by ls client)) ≡ with_its (of_pass n (registrations ls)) client (its_now client l.kept ∷ [])
emptied_takings n client [] l found number = cc
emptied_takings n client (m ∷ ls) l found number =
    emptied_if (is_of client m) n client m l ls refl found number (λ e. emptied_takings n client ls l e number)

dropped_by_loss : (lost : Bool) (n client : ℕ) (ls : List Listening) (r : Registration) → r.is_lost ≡ lost → AreApart (registrations ls) → (l : IsListener ls client r) → r.number ≡ n
    → of_pass n (registrations (dropped_by ls client)) ≡ takings_after lost (of_pass n (registrations ls)) client (r.taken + length r.pending)
dropped_by_loss true n client ls r is apart l number =
    ap (λ (ms : List Listening). of_pass n (registrations ms)) (dropped_if true l.one ls client l.found (ap (λ (x : Registration). x.is_lost) l.kept ∙ is)) ∙ left_takings n client ls apart
dropped_by_loss false n client ls r is apart l number =
    ap (λ (ms : List Listening). of_pass n (registrations ms)) (dropped_if false l.one ls client l.found (ap (λ (x : Registration). x.is_lost) l.kept ∙ is))
    ∙ emptied_takings n client ls l.one l.found (ap (λ (x : Registration). x.number) l.kept ∙ number)
    ∙ ap (λ (x : Registration). with_its (of_pass n (registrations ls)) client (its_now client x ∷ [])) l.kept

pub dropped_takings : (n client : ℕ) (ls : List Listening) (r : Registration) → AreApart (registrations ls) → IsListener ls client r → r.number ≡ n
    → of_pass n (registrations (dropped_by ls client)) ≡ takings_after r.is_lost (of_pass n (registrations ls)) client (r.taken + length r.pending)
dropped_takings n client ls r apart l number = dropped_by_loss r.is_lost n client ls r refl apart l number
