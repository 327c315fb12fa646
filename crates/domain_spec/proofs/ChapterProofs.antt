-- Why what is at a base is what was there when it was made.
use Rattle.std.proofs.Common.{◌≡◌, ℕ, ◌+◌, ◌==◌, List, [], ◌∷◌, ◌++◌, Bool, true, false, not, if◌then◌else◌, Option, None, refl, sym, ap, ◌∙◌, map, filter, length, length-append, nat_le, arith}
use Rattle.domain_spec.specs.Types.{State, Transition}
use Rattle.domain_spec.specs.declared.mark.Mark.{Mark}
use Rattle.domain_spec.specs.declared.mark.Mark.TheVariants as mark
use Rattle.domain_spec.specs.declared.open.OpenJob.{OpenJob}
use Rattle.domain_spec.specs.declared.open.OpenOperation.{OpenOperation}
use Rattle.domain_spec.specs.declared.standing.Client.{Client}
use Rattle.domain_spec.specs.declared.standing.Registration.{Registration}
use Rattle.domain_spec.specs.declared.standing.Standing.{Standing}
use Rattle.domain_spec.specs.ChapterLaws.{Agree, BaseKeeps, RegistrationsAgree, RisingGoesOn, as_before}
use Rattle.domain_spec.specs.Fold.{after, registered, transitions_of, with_more, without_client}
use Rattle.domain_spec.specs.Registrations.{cut_after, is_numbered, registrations_after, registrations_taken, taken_from, with_pending}

pub rising_goes_on : RisingGoesOn
rising_goes_on b marks rs = refl

same_standing : (at : State) (o : Option OpenOperation) (j k : Option OpenJob) (l m : Option ℕ) (cs ds : List Client) → j ≡ k → l ≡ m → cs ≡ ds
    → (let x : Standing = record { state = at; job = j; just_admitted = false; operation = o; lost = l; clients = cs } in x)
    ≡ record { state = at; job = k; just_admitted = false; operation = o; lost = m; clients = ds }
same_standing at o j k l m cs ds e f g = rw (e, f, g) refl

pub base_keeps : BaseKeeps
base_keeps s rs job lost agree = same_standing s.state s.operation None s.job None s.lost (registered rs) (map as_before s.clients) (sym job) (sym lost) agree

-- a registration as a client
abbrev as_client : Registration → Client
as_client r = record { number = r.number; client = r.client; before = r.taken + length r.pending; total = r.taken + length r.pending }

abbrev listed : Bool → Registration → List Client → List Client
listed lost r cs = if lost then cs else as_client r ∷ cs

listed_before : (lost : Bool) (r : Registration) (cs : List Client) → cs ≡ map as_before cs → listed lost r cs ≡ map as_before (listed lost r cs)
listed_before true r cs e = e
listed_before false r cs e = ap (λ (l : List Client). as_client r ∷ l) e

same_before : (rs : List Registration) → registered rs ≡ map as_before (registered rs)
same_before [] = refl
same_before (r ∷ rs) = listed_before r.is_lost r (registered rs) (same_before rs)

-- no more transitions
more_none : (cs : List Client) → map as_before (map (with_more 0) cs) ≡ map as_before cs
more_none [] = refl
more_none (c ∷ cs) = let e : c.total + 0 ≡ c.total = omega arith in rw e (ap (λ (l : List Client). as_before c ∷ l) (more_none cs))

before_append : (cs ds : List Client) → map as_before (cs ++ ds) ≡ map as_before cs ++ map as_before ds
before_append [] ds = refl
before_append (c ∷ cs) ds = ap (λ (l : List Client). as_before c ∷ l) (before_append cs ds)

listed_append : (lost : Bool) (r : Registration) (cs ds more : List Client) → cs ≡ ds ++ more → listed lost r cs ≡ listed lost r ds ++ more
listed_append true r cs ds more e = e
listed_append false r cs ds more e = ap (λ (l : List Client). as_client r ∷ l) e

registered_append : (rs more : List Registration) → registered (rs ++ more) ≡ registered rs ++ registered more
registered_append [] more = refl
registered_append (r ∷ rs) more = listed_append r.is_lost r (registered (rs ++ more)) (registered rs) (registered more) (registered_append rs more)

-- one client less
abbrev unless : Bool → Client → List Client → List Client
unless b c cs = if not b then c ∷ cs else cs

without_before : (b : Bool) (c : Client) (cs ds : List Client) → cs ≡ map as_before ds → unless b (as_before c) cs ≡ map as_before (unless b c ds)
without_before true c cs ds e = e
without_before false c cs ds e = ap (λ (l : List Client). as_before c ∷ l) e

before_without : (cs : List Client) (client : ℕ) → without_client (map as_before cs) client ≡ map as_before (without_client cs client)
before_without [] client = refl
before_without (c ∷ cs) client = without_before (c.client == client) c _ _ (before_without cs client)

listed_filter : (b lost : Bool) (r : Registration) (client : ℕ) (kept : List Registration) (cs : List Client) → (r.client == client) ≡ b → r.is_lost ≡ lost → registered kept ≡ without_client cs client
    → registered (if not b then r ∷ kept else kept) ≡ without_client (listed lost r cs) client
listed_filter true true r client kept cs is lost e = e
listed_filter true false r client kept cs is lost e = rw is e
listed_filter false true r client kept cs is lost e = rw lost e
listed_filter false false r client kept cs is lost e = rw (lost, is) (ap (λ (l : List Client). as_client r ∷ l) e)

registered_filter : (rs : List Registration) (client : ℕ) → registered (filter (λ r. not (is_numbered client r)) rs) ≡ without_client (registered rs) client
registered_filter [] client = refl
registered_filter (r ∷ rs) client = listed_filter (r.client == client) r.is_lost r client _ (registered rs) refl refl (registered_filter rs client)

listed_cut : (b lost : Bool) (r : Registration) (client total : ℕ) (kept : List Registration) (cs : List Client) → (r.client == client) ≡ b → r.is_lost ≡ lost → registered kept ≡ without_client cs client
    → registered (cut_after client total r ∷ kept) ≡ without_client (listed lost r cs) client
listed_cut true true r client total kept cs is lost e = rw (is, lost) e
listed_cut true false r client total kept cs is lost e = rw (is, lost) e
listed_cut false true r client total kept cs is lost e = rw (is, lost) e
listed_cut false false r client total kept cs is lost e = rw (is, lost) (ap (λ (l : List Client). as_client r ∷ l) e)

registered_cut : (rs : List Registration) (client total : ℕ) → registered (map (cut_after client total) rs) ≡ without_client (registered rs) client
registered_cut [] client total = refl
registered_cut (r ∷ rs) client total = listed_cut (r.client == client) r.is_lost r client total (map (cut_after client total) rs) (registered rs) refl refl (registered_cut rs client total)

-- a client to whom n more transitions came, whenever
abbrev grown : ℕ → Client → Client
grown n c = record c { before = c.total + n; total = c.total + n }

before_more : (n : ℕ) (cs : List Client) → map as_before (map (with_more n) cs) ≡ map (grown n) (map as_before cs)
before_more n [] = refl
before_more n (c ∷ cs) = ap (λ (l : List Client). grown n c ∷ l) (before_more n cs)

as_grown : (r : Registration) (events : List Transition) → as_client (record r { pending = r.pending ++ events }) ≡ grown (length events) (as_client r)
as_grown r events =
    let e : r.taken + length (r.pending ++ events) ≡ (r.taken + length r.pending) + length events = rw (length-append r.pending events) (omega arith) in
    rw e refl

listed_more : (lost : Bool) (r : Registration) (events : List Transition) (kept : List Registration) (cs : List Client) → r.is_lost ≡ lost → registered kept ≡ map (grown (length events)) cs
    → registered (with_pending events r ∷ kept) ≡ map (grown (length events)) (listed lost r cs)
listed_more true r events kept cs lost e = rw lost e
listed_more false r events kept cs lost e = rw lost (ap (λ (l : List Client). as_client (record r { pending = r.pending ++ events }) ∷ l) e ∙ ap (λ (c : Client). c ∷ map (grown (length events)) cs) (as_grown r events))

registered_more : (rs : List Registration) (events : List Transition) → registered (map (with_pending events) rs) ≡ map (grown (length events)) (registered rs)
registered_more [] events = refl
registered_more (r ∷ rs) events = listed_more r.is_lost r events (map (with_pending events) rs) (registered rs) refl (registered_more rs events)

more_agree : (cs : List Client) (rs : List Registration) (events : List Transition) → registered rs ≡ map as_before cs
    → registered (map (with_pending events) rs) ≡ map as_before (map (with_more (length events)) cs)
more_agree cs rs events e = registered_more rs events ∙ ap (map (grown (length events))) e ∙ sym (before_more (length events) cs)

marks_agree : (s : Standing) (rs : List Registration) (m : Mark ℕ) → Agree rs s → Agree (registrations_after rs m) (after s m)
marks_agree s rs (mark.Watch number client) e =
    registered_append rs _ ∙ ap (λ (l : List Client). l ++ (record { number = number; client = client; before = 0; total = 0 }) ∷ []) (e ∙ sym (more_none s.clients)) ∙ sym (before_append (map (with_more 0) s.clients) _)
marks_agree s rs (mark.Unwatch number client) e =
    registered_filter rs client ∙ ap (λ (l : List Client). without_client l client) e ∙ before_without s.clients client ∙ sym (more_none (without_client s.clients client))
marks_agree s rs (mark.Cut client total taken) e =
    registered_cut rs client total ∙ ap (λ (l : List Client). without_client l client) e ∙ before_without s.clients client
marks_agree s rs other e = more_agree s.clients rs (transitions_of other) e

-- what is taken is no more and no less than what came

told_listed : (lost none : Bool) (r : Registration) (rs : List Registration) → r.is_lost ≡ lost → nat_le (length r.pending) 0 ≡ none → registered (taken_from r ++ rs) ≡ listed lost r (registered rs)
told_listed true true r rs lost none = rw (lost, none) refl
told_listed true false r rs lost none = rw (lost, none) refl
told_listed false none r rs lost is = let e : (r.taken + length r.pending) + 0 ≡ r.taken + length r.pending = omega arith in rw (lost, e) refl

listed_same : (lost : Bool) (r : Registration) (rs more : List Registration) → registered rs ≡ registered more → listed lost r (registered rs) ≡ listed lost r (registered more)
listed_same lost r rs more e = ap (listed lost r) e

take_one : (b : Bool) (r : Registration) (rs more : List Registration) → registered more ≡ registered rs → registered (if b then taken_from r ++ rs else r ∷ more) ≡ registered (r ∷ rs)
take_one true r rs more e = told_listed r.is_lost (nat_le (length r.pending) 0) r rs refl refl
take_one false r rs more e = listed_same r.is_lost r more rs e

registered_taken : (rs : List Registration) (client : ℕ) → registered (registrations_taken rs client) ≡ registered rs
registered_taken [] client = refl
registered_taken (r ∷ rs) client = take_one (is_numbered client r) r rs (registrations_taken rs client) (registered_taken rs client)

pub registrations_agree : RegistrationsAgree
registrations_agree = record {
  first = λ b. same_before b.registrations;
  marked = marks_agree;
  taken = λ s rs client e. registered_taken rs client ∙ e;
}
