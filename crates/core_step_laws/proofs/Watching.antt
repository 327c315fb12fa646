-- What the turns of clients leave of the share of their own number.
use Rattle.std.proofs.Common.{◌≡◌, ℕ, zero, suc, ◌+◌, ◌==◌, List, [], ◌∷◌, ◌++◌, filter, length, map, slice_get, Bool, true, false, not, ◌||◌, Option, Some, Ok, Err, if◌then◌else◌, refl, sym, ap, ◌∙◌, subst, eq-eqb}
use Rattle.std.specs.List.{list_any}
use Rattle.domain_spec.specs.declared.core_step.CoreStep.{CoreStep}
use Rattle.domain_spec.specs.declared.core_step.CoreStep.TheVariants as step
use Rattle.domain_spec.specs.declared.mark.Mark.{Mark}
use Rattle.domain_spec.specs.declared.mark.Mark.TheVariants as mark
use Rattle.domain_spec.specs.declared.standing.Registration.{Registration}
use Rattle.domain_spec.specs.declared.standing.Standing.{Standing}
use Rattle.domain_spec.specs.Cell.{Cell, LentEars, Queue, Share, Taken, ears_of, operation_of, share_of, standing_of, waits_of}
use Rattle.domain_spec.specs.Fold.{standing}
use Rattle.domain_spec.specs.Registrations.{is_numbered, registrations_at, registrations_taken, taken_from, tells_loss}
use Rattle.domain_spec.specs.Turns.{AnswersAfter}
use Rattle.core_step_laws.specs.Shares.{AreApart}
use Rattle.core_step_laws.proofs.Jobs.{on_base, same_by}
use Rattle.core_step_laws.proofs.Listed.{taken_by, taken_of}
use Rattle.core_step_laws.specs.Registered.{TakesKeep, UnwatchesKeep, WatchesKeep, taken_then, with_its, without_its}
use Rattle.core_step_laws.proofs.Answering.{IsNoAnswer, LetsNoneIn, StaysInForce, call_after}
use Rattle.core_step_laws.proofs.Parts.{five_parts}

abbrev all_taken : List Registration → List Taken
all_taken rs = map (λ (r : Registration). taken_by r) rs

-- all but the registrations

listed_so : (c d : Cell) (t : CoreStep ℕ) (n : ℕ) (left : List (Mark ℕ)) (ts : List Taken) → d.base ≡ c.base → d.marks ≡ c.marks ++ left → d.queue ≡ c.queue → d.ears ≡ c.ears → IsNoAnswer t → LetsNoneIn left
    → AnswersAfter c t left (standing_of d).job d.answers → StaysInForce (standing_of c) (standing (standing_of c) left) → taken_of n d.registrations ≡ ts → share_of d n ≡ record (share_of c n) { registrations = ts }
listed_so c d t n left ts base marks queue ears back admits answers same taken =
    let is : standing_of d ≡ standing (standing_of c) left = on_base c d left base marks in
    let s : Share = share_of c n in
    let v : Share = share_of d n in
    five_parts v.waits s.waits v.call s.call v.operation s.operation v.registrations ts v.ears s.ears
    (ap (λ (q : Queue). waits_of q.passes n) queue)
    (call_after c d t n left is back admits answers same)
    (ap (λ (u : Standing). operation_of u.operation n) is ∙ ap (λ (q : _). operation_of q n) same.operation)
    taken
    (ap (λ (x : Option LentEars). ears_of x n) ears)

-- a client comes

came_if : (b : Bool) (r : Registration) (ys zs : List Registration) (t : Taken) → all_taken ys ≡ all_taken zs ++ t ∷ [] → all_taken (if b then r ∷ ys else ys) ≡ all_taken (if b then r ∷ zs else zs) ++ t ∷ []
came_if true r ys zs t e = ap (λ (ts : List Taken). taken_by r ∷ ts) e
came_if false r ys zs t e = e

came : (n : ℕ) (x : Registration) (rs : List Registration) → (x.number == n) ≡ true → taken_of n (rs ++ x ∷ []) ≡ taken_of n rs ++ taken_by x ∷ []
came n x [] e = ap (λ (b : Bool). all_taken (if b then x ∷ [] else [])) e
came n x (r ∷ rs) e = came_if (r.number == n) r (filter (λ y. y.number == n) (rs ++ x ∷ [])) (filter (λ y. y.number == n) rs) (taken_by x) (came n x rs e)

one_watch : (s : Standing) (n client : ℕ) (left : List (Mark ℕ)) → left ≡ mark.Watch n client ∷ [] → StaysInForce s (standing s left)
one_watch s n client left only = subst (λ (ms : List (Mark ℕ)). StaysInForce s (standing s ms)) (sym only) (record { state = refl; job = refl; operation = refl })

pub watches_keep : WatchesKeep
watches_keep old new n (Ok client) h =
    let c : Cell = old.cell in
    let leads = h.1.leads in
    let x : Registration = record { number = n; client = client; taken = 0; pending = []; is_lost = false } in
    listed_so c new.cell (step.Watch n) n h.0 (taken_of n c.registrations ++ taken_by x ∷ []) leads.base leads.marks leads.queue leads.ears tt
    (subst (λ (ms : List (Mark ℕ)). LetsNoneIn ms) (sym h.2) tt) leads.answers (one_watch (standing_of c) n client h.0 h.2)
    (ap (λ (rs : List Registration). taken_of n rs) (leads.registrations ∙ ap (λ (ms : List (Mark ℕ)). registrations_at c.registrations ms) h.2) ∙ came n x c.registrations (eq-eqb n n refl))
watches_keep old new n (Err e) h =
    let c : Cell = old.cell in
    let leads = h.1.leads in
    listed_so c new.cell (step.Watch n) n h.0 (taken_of n c.registrations) leads.base leads.marks leads.queue leads.ears tt
    (subst (λ (ms : List (Mark ℕ)). LetsNoneIn ms) (sym h.2) tt) leads.answers
    (subst (λ (ms : List (Mark ℕ)). StaysInForce (standing_of c) (standing (standing_of c) ms)) (sym h.2) (record { state = refl; job = refl; operation = refl }))
    (ap (λ (rs : List Registration). taken_of n rs) (leads.registrations ∙ ap (λ (ms : List (Mark ℕ)). registrations_at c.registrations ms) h.2))

-- a client leaves

stays_if : (client : ℕ) (a : Bool) (r : Registration) (ys zs : List Registration) → (r.client == client) ≡ false → all_taken ys ≡ without_its (all_taken zs) client
    → all_taken (if a then r ∷ ys else ys) ≡ without_its (all_taken (if a then r ∷ zs else zs)) client
stays_if client true r ys zs e h =
    ap (λ (ts : List Taken). taken_by r ∷ ts) h
    ∙ sym (ap (λ (b : Bool). if not b then taken_by r ∷ without_its (all_taken zs) client else without_its (all_taken zs) client) e)
stays_if client false r ys zs e h = h

goes_if : (client : ℕ) (a : Bool) (r : Registration) (zs : List Registration) → (r.client == client) ≡ true → without_its (all_taken (if a then r ∷ zs else zs)) client ≡ without_its (all_taken zs) client
goes_if client true r zs e = ap (λ (b : Bool). if not b then taken_by r ∷ without_its (all_taken zs) client else without_its (all_taken zs) client) e
goes_if client false r zs e = refl

left_if : (n client : ℕ) (b : Bool) (r : Registration) (rs kept : List Registration) → (r.client == client) ≡ b → taken_of n kept ≡ without_its (taken_of n rs) client
    → taken_of n (if not b then r ∷ kept else kept) ≡ without_its (taken_of n (r ∷ rs)) client
left_if n client true r rs kept e h = h ∙ sym (goes_if client (r.number == n) r (filter (λ y. y.number == n) rs) e)
left_if n client false r rs kept e h = stays_if client (r.number == n) r (filter (λ y. y.number == n) kept) (filter (λ y. y.number == n) rs) e h

left_all : (n client : ℕ) (rs : List Registration) → taken_of n (filter (λ r. not (is_numbered client r)) rs) ≡ without_its (taken_of n rs) client
left_all n client [] = refl
left_all n client (r ∷ rs) = left_if n client (r.client == client) r rs (filter (λ r. not (is_numbered client r)) rs) refl (left_all n client rs)

pub unwatches_keep : UnwatchesKeep
unwatches_keep old new n client h =
    let c : Cell = old.cell in
    let leads = h.1.leads in
    listed_so c new.cell (step.Unwatch n client) n h.0 (without_its (taken_of n c.registrations) client) leads.base leads.marks leads.queue leads.ears tt
    (subst (λ (ms : List (Mark ℕ)). LetsNoneIn ms) (sym h.2) tt) leads.answers
    (subst (λ (ms : List (Mark ℕ)). StaysInForce (standing_of c) (standing (standing_of c) ms)) (sym h.2) (record { state = refl; job = refl; operation = refl }))
    (ap (λ (rs : List Registration). taken_of n rs) (leads.registrations ∙ ap (λ (ms : List (Mark ℕ)). registrations_at c.registrations ms) h.2) ∙ left_all n client c.registrations)

-- a client takes

either_false : (a b : Bool) → (a || b) ≡ false → (a ≡ false) × (b ≡ false)
either_false true b e = cc
either_false false b e = (refl, e)

not_both : (b : Bool) → b ≡ true → b ≡ false → ⊥
not_both true e f = cc
not_both false e f = cc

not_there : (client place : ℕ) (r : Registration) (rs : List Registration) → slice_get rs place ≡ Some r → r.client ≡ client → list_any (is_numbered client) rs ≡ false → ⊥
not_there client zero r [] at is none = cc
not_there client (suc place) r [] at is none = cc
not_there client zero r (x ∷ rs) at is none =
    let same : x ≡ r = cc in
    not_both (is_numbered client x) (eq-eqb x.client client (ap (λ (y : Registration). y.client) same ∙ is)) (either_false (is_numbered client x) (list_any (is_numbered client) rs) none).0
not_there client (suc place) r (x ∷ rs) at is none = not_there client place r rs at is (either_false (is_numbered client x) (list_any (is_numbered client) rs) none).1

first_is : (client place : ℕ) (r x : Registration) (rs : List Registration) → slice_get (x ∷ rs) place ≡ Some r → r.client ≡ client → x.client ≡ client → AreApart (x ∷ rs) → x ≡ r
first_is client zero r x rs at is its apart = cc
first_is client (suc place) r x rs at is its apart = absurd (not_there client place r rs at is (sym (ap (λ (k : ℕ). list_any (is_numbered k) rs) its) ∙ apart.0))

-- more was taken by the first
more_if : (n : ℕ) (b : Bool) (r : Registration) (rs : List Registration) → (r.number == n) ≡ true
    → taken_of n ((if b then [] else (record r { taken = r.taken + length r.pending; pending = [] }) ∷ []) ++ rs)
    ≡ all_taken (if b then [] else (record r { taken = r.taken + length r.pending; pending = [] }) ∷ []) ++ taken_of n rs
more_if n true r rs e = refl
more_if n false r rs e =
    let x : Registration = record r { taken = r.taken + length r.pending; pending = [] } in
    ap (λ (b : Bool). all_taken (if b then x ∷ filter (λ y. y.number == n) rs else filter (λ y. y.number == n) rs)) e

its_first : (n client : ℕ) (r : Registration) (zs : List Registration) (now : List Taken) → (r.number == n) ≡ true → (r.client == client) ≡ true
    → with_its (all_taken (if r.number == n then r ∷ zs else zs)) client now ≡ now ++ all_taken zs
its_first n client r zs now e f =
    ap (λ (a : Bool). with_its (all_taken (if a then r ∷ zs else zs)) client now) e
    ∙ ap (λ (b : Bool). if b then now ++ all_taken zs else taken_by r ∷ with_its (all_taken zs) client now) f

other_first : (client : ℕ) (a : Bool) (r : Registration) (ys zs : List Registration) (now : List Taken) → (r.client == client) ≡ false → all_taken ys ≡ with_its (all_taken zs) client now
    → all_taken (if a then r ∷ ys else ys) ≡ with_its (all_taken (if a then r ∷ zs else zs)) client now
other_first client true r ys zs now e h =
    ap (λ (ts : List Taken). taken_by r ∷ ts) h
    ∙ sym (ap (λ (b : Bool). if b then now ++ all_taken zs else taken_by r ∷ with_its (all_taken zs) client now) e)
other_first client false r ys zs now e h = h

took_first : (n client place : ℕ) (r x : Registration) (rs : List Registration) → slice_get (x ∷ rs) place ≡ Some r → r.client ≡ client → r.number ≡ n → (x.client == client) ≡ true → x.client ≡ client → AreApart (x ∷ rs)
    → taken_of n (taken_from x ++ rs) ≡ with_its (taken_of n (x ∷ rs)) client (taken_then r)
took_first n client place r x rs at is mine its same apart =
    let here : x ≡ r = first_is client place r x rs at is same apart in
    let number : (x.number == n) ≡ true = eq-eqb x.number n (ap (λ (y : Registration). y.number) here ∙ mine) in
    more_if n (tells_loss x) x rs number
    ∙ ap (λ (y : Registration). taken_then y ++ taken_of n rs) here
    ∙ sym (its_first n client x (filter (λ y. y.number == n) rs) (taken_then r) number its)

not_first : (client : ℕ) (r x : Registration) (rs : List Registration) → slice_get (x ∷ rs) zero ≡ Some r → r.client ≡ client → (x.client == client) ≡ false → ⊥
not_first client r x rs at is e =
    let same : x ≡ r = cc in
    not_both (x.client == client) (eq-eqb x.client client (ap (λ (y : Registration). y.client) same ∙ is)) e

took_if : (n client place : ℕ) (b : Bool) (r x : Registration) (rs kept : List Registration) → slice_get (x ∷ rs) place ≡ Some r → r.client ≡ client → r.number ≡ n → (x.client == client) ≡ b → AreApart (x ∷ rs)
    → ((k : ℕ) → slice_get rs k ≡ Some r → taken_of n kept ≡ with_its (taken_of n rs) client (taken_then r))
    → taken_of n (if b then taken_from x ++ rs else x ∷ kept) ≡ with_its (taken_of n (x ∷ rs)) client (taken_then r)
took_if n client place true r x rs kept at is mine e apart rest = took_first n client place r x rs at is mine e (same_by x.client client (x.client == client) refl e) apart
took_if n client zero false r x rs kept at is mine e apart rest = absurd (not_first client r x rs at is e)
took_if n client (suc place) false r x rs kept at is mine e apart rest =
    other_first client (x.number == n) x (filter (λ y. y.number == n) kept) (filter (λ y. y.number == n) rs) (taken_then r) e (rest place at)

took : (n client place : ℕ) (r : Registration) (rs : List Registration) → slice_get rs place ≡ Some r → r.client ≡ client → r.number ≡ n → AreApart rs
    → taken_of n (registrations_taken rs client) ≡ with_its (taken_of n rs) client (taken_then r)
took n client zero r [] at is mine apart = cc
took n client (suc place) r [] at is mine apart = cc
took n client place r (x ∷ rs) at is mine apart =
    took_if n client place (x.client == client) r x rs (registrations_taken rs client) at is mine refl apart (λ k there. took n client k r rs there is mine apart.1)

pub takes_keep : TakesKeep
takes_keep old new n client apart h =
    let c : Cell = old.cell in
    let leads = h.1.leads in
    let can = h.1.turn.can in
    let r : Registration = can.0 in (
      r,
      can.1,
      listed_so c new.cell (step.Take n client) n h.0 (with_its (taken_of n c.registrations) client (taken_then r)) leads.base leads.marks leads.queue leads.ears tt
          (subst (λ (ms : List (Mark ℕ)). LetsNoneIn ms) (sym h.2) tt) leads.answers
          (subst (λ (ms : List (Mark ℕ)). StaysInForce (standing_of c) (standing (standing_of c) ms)) (sym h.2) (record { state = refl; job = refl; operation = refl }))
          (ap (λ (rs : List Registration). taken_of n rs) leads.registrations ∙ took n client can.1.2 r c.registrations can.1.3 can.1.1 can.1.0 apart),
    )
