-- What the cell keeps for any unlike number stays.
use Rattle.std.proofs.Common.{◌≡◌, ℕ, ◌==◌, List, [], ◌∷◌, Bool, true, false, Option, None, Some, if◌then◌else◌, refl, sym, ap, ◌∙◌, subst}
use Rattle.domain_spec.specs.Types.{Answer, Ask, Who}
use Rattle.domain_spec.specs.declared.core_step.CoreStep.{CoreStep}
use Rattle.domain_spec.specs.declared.mark.Mark.{Mark}
use Rattle.domain_spec.specs.declared.open.OpenJob.{OpenJob}
use Rattle.domain_spec.specs.declared.open.OpenOperation.{OpenOperation}
use Rattle.domain_spec.specs.declared.standing.Registration.{Registration}
use Rattle.domain_spec.specs.declared.standing.Standing.{Standing}
use Rattle.domain_spec.specs.Cell.{Cell, LentEars, OpenCall, Share, Taken, as_let_in, asks_so_far, call_of, ears_of, operation_of, share_of, standing_of, waits_of}
use Rattle.domain_spec.specs.Turns.{IsTurn, Leads}
use Rattle.core_step_laws.specs.Shares.{AsksStay, KeepsOthers, OthersAreKept}
use Rattle.core_step_laws.proofs.Jobs.{cell_stays, same_by, seen_of}
use Rattle.core_step_laws.proofs.Listed.{kept_listed, taken_of}
use Rattle.core_step_laws.proofs.Queued.{ears_stay, waits_stay}

-- the open call

abbrev made : OpenJob → List Ask → List Answer → Option OpenCall
made j asks answers = Some (record { job = j; asks = asks; answers = answers })

abbrev seen_if : Bool → OpenJob → Option OpenJob
seen_if b j = if b then Some (as_let_in j) else None

abbrev open_if : Bool → OpenJob → List Ask → List Answer → Option OpenCall
open_if b j asks answers = if b then Some (record { job = as_let_in j; asks = asks; answers = answers }) else None

unseen : (b : Bool) (j : OpenJob) → seen_if b j ≡ None → b ≡ false
unseen true j e = cc
unseen false j e = refl

abbrev opened : OpenJob → List Ask → List Answer → Option OpenCall
opened j asks answers = Some (record { job = as_let_in j; asks = asks; answers = answers })

same_call : (j k : OpenJob) (xs ys : List Ask) (a b : List Answer) → as_let_in k ≡ as_let_in j → ys ≡ xs → b ≡ a → opened k ys b ≡ opened j xs a
same_call j k xs ys a b e f g =
    ap (λ (x : OpenJob). made x ys b) e ∙ ap (λ (zs : List Ask). opened j zs b) f ∙ ap (λ (zs : List Answer). opened j xs zs) g

both_open : (p q : Bool) (j k : OpenJob) (xs ys : List Ask) (a b : List Answer) → seen_if q k ≡ seen_if p j → (p ≡ true → as_let_in k ≡ as_let_in j → (b ≡ a) × (ys ≡ xs)) → open_if q k ys b ≡ open_if p j xs a
both_open true true j k xs ys a b e stay =
    let same : as_let_in k ≡ as_let_in j = cc in
    let kept = stay refl same in
    same_call j k xs ys a b same kept.1 kept.0
both_open true false j k xs ys a b e stay = cc
both_open false true j k xs ys a b e stay = cc
both_open false false j k xs ys a b e stay = refl

call_stays : (m : ℕ) (s t : Standing) (j k : Option OpenJob) (a b : List Answer) → seen_of m k ≡ seen_of m j
    → ((x y : OpenJob) → j ≡ Some x → k ≡ Some y → as_let_in y ≡ as_let_in x → x.number ≡ m → (b ≡ a) × (asks_so_far t y.job y b ≡ asks_so_far s x.job x a))
    → call_of t k b m ≡ call_of s j a m
call_stays m s t None None a b e stay = refl
call_stays m s t None (Some y) a b e stay = ap (λ (c : Bool). open_if c y (asks_so_far t y.job y b) b) (unseen (y.number == m) y e)
call_stays m s t (Some x) None a b e stay = sym (ap (λ (c : Bool). open_if c x (asks_so_far s x.job x a) a) (unseen (x.number == m) x (sym e)))
call_stays m s t (Some x) (Some y) a b e stay =
    both_open (x.number == m) (y.number == m) x y (asks_so_far s x.job x a) (asks_so_far t y.job y b) a b e
    (λ is same. stay x y refl refl same (same_by x.number m (x.number == m) refl is))

-- all five parts

abbrev made_of : Option Who → Option OpenCall → Option OpenOperation → List Taken → Option LentEars → Share
made_of waits call operation registrations ears = record { waits = waits; call = call; operation = operation; registrations = registrations; ears = ears }

same_parts : (a b : Option Who) (c d : Option OpenCall) (e f : Option OpenOperation) (g h : List Taken) (i j : Option LentEars) → a ≡ b → c ≡ d → e ≡ f → g ≡ h → i ≡ j → made_of a c e g i ≡ made_of b d f h j
same_parts a b c d e f g h i j p q r s t =
    ap (λ (x : Option Who). made_of x c e g i) p
    ∙ ap (λ (x : Option OpenCall). made_of b x e g i) q
    ∙ ap (λ (x : Option OpenOperation). made_of b d x g i) r
    ∙ ap (λ (x : List Taken). made_of b d f x i) s
    ∙ ap (λ (x : Option LentEars). made_of b d f h x) t

pub others_are_kept : OthersAreKept
others_are_kept c d t n left is turn leads apart told asks m unlike =
    let stays = cell_stays c d t n m left is unlike turn leads in
    same_parts (waits_of d.queue.passes m) (waits_of c.queue.passes m)
    (call_of (standing_of d) (standing_of d).job d.answers m) (call_of (standing_of c) (standing_of c).job c.answers m)
    (operation_of (standing_of d).operation m) (operation_of (standing_of c).operation m)
    (taken_of m d.registrations) (taken_of m c.registrations)
    (ears_of d.ears m) (ears_of c.ears m)
    (waits_stay c t n m left d.queue is unlike leads.queue)
    (call_stays m (standing_of c) (standing_of d) (standing_of c).job (standing_of d).job c.answers d.answers stays.job
    (λ x y e f same number. asks x y e f same (λ own. unlike (sym number ∙ own))))
    stays.operation
    (ap (λ (rs : List Registration). taken_of m rs) leads.registrations ∙ kept_listed c t n m left is unlike turn.can apart turn.left)
    (ap (λ (ears : Option LentEars). ears_of ears m) leads.ears ∙ ears_stay t n m c.ears told unlike)
