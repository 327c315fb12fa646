-- Each turn keeps what registrations are owed, a chapter's end too.
use Rattle.std.proofs.Common.{◌≡◌, ◌≤◌, ℕ, ◌+◌, ◌&&◌, not, List, [], ◌∷◌, ◌++◌, find, append-nil, refl, sym, ap, ◌∙◌, subst, Bool, true, false, if◌then◌else◌, Option, None, Some}
use Rattle.std.specs.List.{list_any}
use Rattle.std.proofs.lemmas.Bool.{eqb-true}
use Rattle.domain_spec.specs.declared.core_step.CoreStep.{CoreStep}
use Rattle.domain_spec.specs.declared.core_step.CoreStep.TheVariants as step
use Rattle.domain_spec.specs.declared.mark.Mark.{Mark}
use Rattle.domain_spec.specs.declared.mark.Mark.TheVariants as mark
use Rattle.domain_spec.specs.declared.standing.Base.{Base}
use Rattle.domain_spec.specs.declared.standing.Client.{Client}
use Rattle.domain_spec.specs.declared.standing.Registration.{Registration}
use Rattle.domain_spec.specs.declared.standing.Standing.{Standing}
use Rattle.domain_spec.specs.Cell.{Cell, standing_of}
use Rattle.domain_spec.specs.Chapter.{next_base}
use Rattle.domain_spec.specs.Fold.{after}
use Rattle.domain_spec.specs.Legal.{IsCut}
use Rattle.domain_spec.specs.Legal.{client_named}
use Rattle.domain_spec.specs.Registrations.{is_numbered, registrations_after, registrations_at, registrations_taken}
use Rattle.domain_spec.specs.Turns.{AreCut, BeginsBy, GoOn, GoesOnBy, MayLeave, Took}
use Rattle.core_owed.specs.Owing.{AreApart, EachIsOwed, IsOwing}
use Rattle.core_owed.specs.OwingLaws.{OpenedIsOwed, TurnsKeepOwed}
use Rattle.core_owed.proofs.Apart.{AllCutLater, Fits, HasNone, apart_after, apart_taken, neither}
use Rattle.core_owed.proofs.Marking.{AllFit, apart_at, each_at, each_begins, each_taken}

-- a cut names how much its registration has taken, and that is no more than came

abbrev can_be_cut : ℕ → Registration → Bool
can_be_cut client r = is_numbered client r && not r.is_lost

not_both : (b : Bool) → b ≡ true → b ≡ false → ⊥
not_both true e f = cc
not_both false e f = cc

none_later : (client total taken : ℕ) (rs : List Registration) → HasNone rs client → AllCutLater (mark.Cut client total taken) rs
none_later client total taken [] none = tt
none_later client total taken (r ∷ rs) none =
    let both = neither (is_numbered client r) (list_any (is_numbered client) rs) none in
    ((λ is lost. absurd (not_both (is_numbered client r) is both.0)), none_later client total taken rs both.1)

took_if : (mine lost : Bool) (client total taken : ℕ) (r : Registration) (rs : List Registration) → is_numbered client r ≡ mine → r.is_lost ≡ lost → HasNone rs r.client → taken ≤ total
    → Took (if mine && not lost then Some r else find (can_be_cut client) rs) taken → (Took (find (can_be_cut client) rs) taken → AllCutLater (mark.Cut client total taken) rs)
    → AllCutLater (mark.Cut client total taken) (r ∷ rs)
took_if true false client total taken r rs is lost none room took rest =
    ((λ also here. subst (λ (n : ℕ). n ≤ total) took room), none_later client total taken rs (subst (λ (k : ℕ). HasNone rs k) (eqb-true r.client client is) none))
took_if true true client total taken r rs is lost none room took rest = ((λ also here. absurd (not_both r.is_lost lost here)), rest took)
took_if false lost client total taken r rs is it none room took rest = ((λ also here. absurd (not_both (is_numbered client r) also is)), rest took)

took_later : (client total taken : ℕ) (rs : List Registration) → AreApart rs → taken ≤ total → Took (find (can_be_cut client) rs) taken → AllCutLater (mark.Cut client total taken) rs
took_later client total taken [] apart room took = tt
took_later client total taken (r ∷ rs) apart room took =
    took_if (is_numbered client r) r.is_lost client total taken r rs refl refl apart.0 room took (λ h. took_later client total taken rs apart.1 room h)

cut_room : (o : Option Client) (total taken : ℕ) → IsCut o total taken → taken ≤ total
cut_room None total taken h = absurd h
cut_room (Some c) total taken h = h.all

-- each mark of a turn fits

goes_fit : (c : Cell) (t : CoreStep ℕ) (s : Standing) (rs : List Registration) (m : Mark ℕ) (marks : List (Mark ℕ)) → AreApart rs → GoesOnBy c t s m → AreCut rs (m ∷ marks) → Fits rs m
goes_fit c t s rs (mark.Watch number client) marks apart h cuts = absurd h
goes_fit c t s rs (mark.Cut client total taken) marks apart h cuts = took_later client total taken rs apart (cut_room (client_named s.clients client) total taken h) cuts.0
goes_fit c t s rs other marks apart h cuts = tt

watch_fits : (c : Cell) (t : CoreStep ℕ) (s : Standing) (number client : ℕ) → BeginsBy c t s (mark.Watch number client) → HasNone c.registrations client
watch_fits c (step.Watch n) s number client h = h.2.free
watch_fits c other s number client h = absurd h

begins_fit : (c : Cell) (t : CoreStep ℕ) (m : Mark ℕ) (marks : List (Mark ℕ)) → AreApart c.registrations → BeginsBy c t (standing_of c) m → AreCut c.registrations (m ∷ marks) → Fits c.registrations m
begins_fit c t (mark.Watch number client) marks apart h cuts = watch_fits c t (standing_of c) number client h
begins_fit c t (mark.Cut client total taken) marks apart h cuts = goes_fit c t (standing_of c) c.registrations (mark.Cut client total taken) marks apart h cuts
begins_fit c t other marks apart h cuts = tt

cuts_on : (rs : List Registration) (m : Mark ℕ) (marks : List (Mark ℕ)) → AreCut rs (m ∷ marks) → AreCut (registrations_after rs m) marks
cuts_on rs (mark.Cut client total taken) marks h = h.1
cuts_on rs other marks h = h.1

all_go : (c : Cell) (t : CoreStep ℕ) (s : Standing) (rs : List Registration) (marks : List (Mark ℕ)) → AreApart rs → GoOn c t s marks → AreCut rs marks → AllFit rs marks
all_go c t s rs [] apart h cuts = tt
all_go c t s rs (m ∷ marks) apart h cuts =
    let one = goes_fit c t s rs m marks apart h.0 cuts in
    (one, all_go c t (after s m) (registrations_after rs m) marks (apart_after rs m one apart) h.2 (cuts_on rs m marks cuts))

all_fit : (c : Cell) (t : CoreStep ℕ) (marks : List (Mark ℕ)) → AreApart c.registrations → MayLeave c t marks → AreCut c.registrations marks → AllFit c.registrations marks
all_fit c t [] apart h cuts = tt
all_fit c t (m ∷ marks) apart h cuts =
    let one = begins_fit c t m marks apart h.0 cuts in
    (one, all_go c t (after (standing_of c) m) (registrations_after c.registrations m) marks (apart_after c.registrations m one apart) h.2 (cuts_on c.registrations m marks cuts))

-- what is so of the parts of a cell is so of the cell

cell_by : (d : Cell) (b : Base) (marks : List (Mark ℕ)) (rs : List Registration) → d.base ≡ b → d.marks ≡ marks → d.registrations ≡ rs → AreApart rs → EachIsOwed b marks rs → IsOwing d
cell_by d b marks rs base is registrations apart each = record {
  apart = subst (λ (x : List Registration). AreApart x) (sym registrations) apart;
  each =
      subst (λ (x : Base). EachIsOwed x d.marks d.registrations) (sym base)
      (subst (λ (x : List (Mark ℕ)). EachIsOwed b x d.registrations) (sym is)
      (subst (λ (x : List Registration). EachIsOwed b marks x) (sym registrations) each));
}

marked : (c d : Cell) (left : List (Mark ℕ)) → AllFit c.registrations left → d.base ≡ c.base → d.marks ≡ c.marks ++ left → d.registrations ≡ registrations_at c.registrations left → IsOwing c → IsOwing d
marked c d left fit base marks registrations h =
    cell_by d c.base (c.marks ++ left) (registrations_at c.registrations left) base marks registrations (apart_at c.registrations left fit h.apart) (each_at c.base c.marks left c.registrations fit h.each)

took : (c d : Cell) (left : List (Mark ℕ)) (client : ℕ) → left ≡ [] → d.base ≡ c.base → d.marks ≡ c.marks ++ left → d.registrations ≡ registrations_taken c.registrations client → IsOwing c → IsOwing d
took c d left client none base marks registrations h =
    cell_by d c.base c.marks (registrations_taken c.registrations client) base (marks ∙ ap (λ (ms : List (Mark ℕ)). c.marks ++ ms) none ∙ append-nil c.marks) registrations
    (apart_taken c.registrations client h.apart) (each_taken c.base c.marks c.registrations client h.each)

began : (c d : Cell) (left : List (Mark ℕ)) → left ≡ [] → d.base ≡ next_base (standing_of c) c.registrations → d.marks ≡ [] → d.registrations ≡ registrations_at c.registrations left → IsOwing c → IsOwing d
began c d left none base marks registrations h =
    let b : Base = next_base (standing_of c) c.registrations in
    cell_by d b [] c.registrations base marks (registrations ∙ ap (λ (ms : List (Mark ℕ)). registrations_at c.registrations ms) none) h.apart (each_begins b h.apart)

pub turns_keep_owed : TurnsKeepOwed
turns_keep_owed c d (step.Take n client) left turn leads none h = took c d left client none leads.base leads.marks leads.registrations h
turns_keep_owed c d (step.Rotate n who) left turn leads none h = began c d left none leads.base leads.marks leads.registrations h
turns_keep_owed c d other left turn leads none h =
    marked c d left (all_fit c other left h.apart turn.left turn.cuts) leads.base leads.marks leads.registrations h

-- nobody is registered yet

pub opened_is_owed : OpenedIsOwed
opened_is_owed c stored autostart opened = record {
  apart = subst (λ (rs : List Registration). AreApart rs) (sym opened.registrations) tt;
  each = subst (λ (rs : List Registration). EachIsOwed c.base c.marks rs) (sym opened.registrations) tt;
}
