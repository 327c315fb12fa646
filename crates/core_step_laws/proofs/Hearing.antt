-- What a boot's end and a guest's event leave of the share of each number.
use Rattle.std.proofs.Common.{◌≡◌, ℕ, suc, ◌==◌, List, Bool, true, false, Option, None, Some, option_map, if◌then◌else◌, refl, sym, ap, ◌∙◌, arith}
use Rattle.domain_spec.specs.Types.{Answer, Ask}
use Rattle.domain_spec.specs.declared.core_step.CoreStep.{CoreStep}
use Rattle.domain_spec.specs.declared.core_step.CoreStep.TheVariants as step
use Rattle.domain_spec.specs.declared.mark.Mark.{Mark}
use Rattle.domain_spec.specs.declared.open.OpenJob.{OpenJob}
use Rattle.domain_spec.specs.declared.standing.Registration.{Registration}
use Rattle.domain_spec.specs.declared.standing.Standing.{Standing}
use Rattle.domain_spec.specs.Cell.{Cell, LentEars, OpenCall, Queue, Share, as_let_in, asks_so_far, call_of, ears_of, share_of, standing_of, waits_of}
use Rattle.domain_spec.specs.Kept.{told_of}
use Rattle.domain_spec.specs.Registrations.{registrations_at}
use Rattle.domain_spec.specs.Turns.{IsTurn, Leads}
use Rattle.core_step_laws.specs.Shares.{AsksStay, IsStepOf}
use Rattle.core_step_laws.proofs.Jobs.{cell_stays, seen_of}
use Rattle.core_step_laws.proofs.Listed.{taken_of}
use Rattle.core_step_laws.specs.Heard.{EarsTold, HearingsKeep}
use Rattle.core_step_laws.proofs.Listing.{KeepsClients, left_listed}
use Rattle.core_step_laws.proofs.Parts.{five_parts}

unlike_next : (n : ℕ) → n ≡ suc n → ⊥
unlike_next n e = omega arith

-- the open call, where the same is asked

abbrev seen_if : Bool → OpenJob → Option OpenJob
seen_if b j = if b then Some (as_let_in j) else None

abbrev open_if : Bool → OpenJob → List Ask → List Answer → Option OpenCall
open_if b j asks answers = if b then Some (record { job = as_let_in j; asks = asks; answers = answers }) else None

abbrev opened : OpenJob → List Ask → List Answer → Option OpenCall
opened j asks answers = Some (record { job = j; asks = asks; answers = answers })

both_open : (p q : Bool) (j k : OpenJob) (xs ys : List Ask) (a b : List Answer) → seen_if q k ≡ seen_if p j → (as_let_in k ≡ as_let_in j → (b ≡ a) × (ys ≡ xs)) → open_if q k ys b ≡ open_if p j xs a
both_open true true j k xs ys a b e stay =
    let same : as_let_in k ≡ as_let_in j = cc in
    let kept = stay same in
    ap (λ (x : OpenJob). opened x ys b) same ∙ ap (λ (zs : List Ask). opened (as_let_in j) zs b) kept.1 ∙ ap (λ (zs : List Answer). opened (as_let_in j) xs zs) kept.0
both_open true false j k xs ys a b e stay = cc
both_open false true j k xs ys a b e stay = cc
both_open false false j k xs ys a b e stay = refl

unseen : (b : Bool) (j : OpenJob) → seen_if b j ≡ None → b ≡ false
unseen true j e = cc
unseen false j e = refl

call_seen : (s t : Standing) (j k : Option OpenJob) (a b : List Answer) (n : ℕ) → seen_of n k ≡ seen_of n j
    → ((x y : OpenJob) → j ≡ Some x → k ≡ Some y → as_let_in y ≡ as_let_in x → (b ≡ a) × (asks_so_far t y.job y b ≡ asks_so_far s x.job x a)) → call_of t k b n ≡ call_of s j a n
call_seen s t None None a b n e stay = refl
call_seen s t None (Some y) a b n e stay = ap (λ (c : Bool). open_if c y (asks_so_far t y.job y b) b) (unseen (y.number == n) y e)
call_seen s t (Some x) None a b n e stay = sym (ap (λ (c : Bool). open_if c x (asks_so_far s x.job x a) a) (unseen (x.number == n) x (sym e)))
call_seen s t (Some x) (Some y) a b n e stay =
    both_open (x.number == n) (y.number == n) x y (asks_so_far s x.job x a) (asks_so_far t y.job y b) a b e (λ same. stay x y refl refl same)

-- its ears

told_if : (b : Bool) (ears : LentEars) → (if b then Some (told_of ears) else None) ≡ option_map told_of (if b then Some ears else None)
told_if true ears = refl
told_if false ears = refl

told_its : (ears : Option LentEars) (n : ℕ) → ears_of (option_map told_of ears) n ≡ option_map told_of (ears_of ears n)
told_its None n = refl
told_its (Some ears) n = told_if (ears.number == n) ears

heard : (c d : Cell) (t : CoreStep ℕ) (n : ℕ) (left : List (Mark ℕ)) → IsStepOf (suc n) t → KeepsClients t → d.registrations ≡ registrations_at c.registrations left → d.queue ≡ c.queue → d.ears ≡ option_map told_of c.ears
    → IsTurn c t left → Leads c t left d → ((m : ℕ) → AsksStay m c d) → EarsTold (share_of c n) (share_of d n)
heard c d t n left its keeps registrations queue ears turn leads asks =
    let stays = cell_stays c d t (suc n) n left its (unlike_next n) turn leads in
    let s : Share = share_of c n in
    let v : Share = share_of d n in
    five_parts v.waits s.waits v.call s.call v.operation s.operation v.registrations s.registrations v.ears (option_map told_of s.ears)
    (ap (λ (q : Queue). waits_of q.passes n) queue)
    (call_seen (standing_of c) (standing_of d) (standing_of c).job (standing_of d).job c.answers d.answers n stays.job
    (λ x y e f same. asks (suc x.number) x y e f same (unlike_next x.number)))
    stays.operation
    (ap (λ (rs : List Registration). taken_of n rs) registrations ∙ left_listed c t n left c.registrations keeps turn.left)
    (ap (λ (x : Option LentEars). ears_of x n) ears ∙ told_its c.ears n)

pub hearings_keep : HearingsKeep
hearings_keep c d (step.Exit boot why) n left is turn leads asks = heard c d (step.Exit boot why) n left tt tt leads.registrations leads.queue leads.ears turn leads asks
hearings_keep c d (step.Event boot e) n left is turn leads asks = heard c d (step.Event boot e) n left tt tt leads.registrations leads.queue leads.ears turn leads asks
hearings_keep c d other n left is turn leads asks = absurd is
