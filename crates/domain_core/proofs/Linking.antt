-- The link of the guest that is there, after each turn.
use Rattle.std.proofs.Common.{◌≡◌, ◌⊎◌, inl, inr, ℕ, ◌==◌, List, [], ◌∷◌, ◌++◌, is_some, not, option_map, Bool, true, false, Option, None, Some, if◌then◌else◌, refl, sym, ap, ◌∙◌, subst, arith}
use Rattle.std.proofs.lemmas.Bool.Decides.{nat_tests}
use Rattle.domain_spec.specs.Types.{Answer, Ask, Call, Who}
use Rattle.domain_spec.specs.Types.ask
use Rattle.domain_spec.specs.declared.core_step.CoreStep.{CoreStep}
use Rattle.domain_spec.specs.declared.core_step.CoreStep.TheVariants as step
use Rattle.domain_spec.specs.declared.core_step.First.{First}
use Rattle.domain_spec.specs.declared.mark.Mark.{Mark}
use Rattle.domain_spec.specs.declared.open.OpenJob.{OpenJob}
use Rattle.domain_spec.specs.declared.standing.Standing.{Standing}
use Rattle.domain_spec.specs.Asks.{is_ok_answer}
use Rattle.domain_spec.specs.CanTake.{CanLook, CanTake, IsNotJobOf}
use Rattle.domain_spec.specs.Cell.{Cell, LentEars, as_let_in, asks_so_far, call_of, share_of, standing_of}
use Rattle.domain_spec.specs.Kept.{ears_after, told_of}
use Rattle.domain_spec.specs.Reading.{live_boot}
use Rattle.domain_spec.specs.Turns.{IsOwn, base_after, marks_after}
use Rattle.domain_spec.specs.Fold.{standing}
use Rattle.core_steps.specs.Answering.{GoesBack}
use Rattle.core_steps.specs.Looking.{Looks}
use Rattle.core_steps.specs.Turning.{AsksLast, HasTurned, Takes, Turning}
use Rattle.domain_core.specs.Held.{IsLinked, IsOpen, IsOutWith, boot_heard, out_by}
use Rattle.domain_core.specs.Linked.{IsWholeBut, Linked, boot_of, ears_in, ears_unless, is_boot, kept_link, killed_link, link_by, link_made, monitor_in, new_link, with_ears_of, with_monitor, without_ears, without_monitor}
use Rattle.monitor_link.specs.Views.{EarsView, LinkView, MonitorView}
use Rattle.domain_core.specs.Tickets.{IsAnswered, back_of, back_ticket, comes, look_ticket, looked_of, phase_ticket, phased_of}
use Rattle.domain_core.specs.declared.ticket.Back.{Back}
use Rattle.domain_core.specs.declared.ticket.Back.TheVariants as back
use Rattle.domain_core.specs.declared.ticket.Look.{Look}
use Rattle.domain_core.specs.declared.ticket.Look.TheVariants as look
use Rattle.domain_core.specs.declared.ticket.PhaseLook.{PhaseLook}
use Rattle.domain_core.specs.declared.ticket.PhaseLook.TheVariants as phase
use Rattle.core_step_laws.specs.Made.{Agrees, AsksThis, IsMakeAnswered, made_boot, made_in, makes}
use Rattle.core_step_laws.proofs.Made.{made_by_its_make, made_stays_made}
use Rattle.core_step_laws.proofs.Agreeing.{phases_agree}
use Rattle.core_steps.specs.Beginning.{Looks as OperationLooks}
use Rattle.core_steps.specs.Phasing.{Phases}
use Rattle.core_steps.specs.declared.beginning.OperationLook.{OperationLook}
use Rattle.core_steps.specs.declared.beginning.OperationLook.TheVariants as operation
use Rattle.core_step_laws.specs.Calls.{IsStill}
use Rattle.core_step_laws.proofs.Calls.{calls_stay}
use Rattle.core_step_laws.proofs.Jobs.{differ, on_base, same_by}
use Rattle.core_steps.specs.ClientLaws.{IsDropping, IsTaking}

-- numbers that are one

equal_true : (a b : ℕ) (t : Bool) → (a == b) ≡ t → a ≡ b → t ≡ true
equal_true a b true e f = refl
equal_true a b false e f = grind (arith, nat_tests, e, f)

pub same_true : (a b : ℕ) → a ≡ b → (a == b) ≡ true
same_true a b e = equal_true a b (a == b) refl e

some_is : (a b : ℕ) → Some a ≡ Some b → a ≡ b
some_is a b e = cc

-- the link that is kept

kept_if : (out heard : Option ℕ) (l : Linked) (b : Bool) → IsWholeBut out heard (Some l) → IsWholeBut out heard (if b then Some l else None)
kept_if out heard l true h = h
kept_if out heard l false h = tt

kept_whole : (made out heard : Option ℕ) (link : Option Linked) → IsWholeBut out heard link → IsWholeBut out heard (kept_link made link)
kept_whole made out heard None h = tt
kept_whole made out heard (Some l) h = kept_if out heard l (is_boot made l.boot) h

kept_true : (l : Linked) (t : Bool) → t ≡ true → boot_of (if t then Some l else None) ≡ Some l.boot
kept_true l true e = refl
kept_true l false e = cc

kept_boot : (made : Option ℕ) (link : Option Linked) → ((b : ℕ) → made ≡ Some b → boot_of link ≡ Some b) → boot_of (kept_link made link) ≡ made
kept_boot None None h = refl
kept_boot None (Some l) h = refl
kept_boot (Some b) None h = h b refl
kept_boot (Some b) (Some l) h = let e : Some l.boot ≡ Some b = h b refl in kept_true l (b == l.boot) (same_true b l.boot (sym (some_is l.boot b e))) ∙ e

-- the ears that are out

heard_told : (ears : Option LentEars) → boot_heard (option_map told_of ears) ≡ boot_heard ears
heard_told None = refl
heard_told (Some e) = refl

pub heard_after : (t : CoreStep ℕ) (ears : Option LentEars) → boot_heard (ears_after t ears) ≡ boot_heard ears
heard_after (step.Exit boot why) ears = heard_told ears
heard_after (step.Event boot e) ears = heard_told ears
heard_after other ears = refl

-- the call whose ticket has the monitor

-- the step closes no call that is open
abbrev pub NotOwn : CoreStep ℕ → Option OpenJob → Type 0
NotOwn t o = (j : OpenJob) → o ≡ Some j → IsOwn t j.number → ⊥

open_job : (o : Option OpenJob) → IsOpen o → (j : OpenJob) × (o ≡ Some j)
open_job None h = absurd h
open_job (Some j) h = (j, refl)

still_job : (j : OpenJob) (o : Option OpenJob) → IsStill j o → (k : OpenJob) × (o ≡ Some k) × (as_let_in k ≡ as_let_in j)
still_job j None h = absurd h
still_job j (Some k) h = (k, refl, h)

is_open : (o : Option OpenJob) (k : OpenJob) → o ≡ Some k → IsOpen o
is_open None k e = cc
is_open (Some j) k e = tt

out_stays : (old new : Turning) (t : CoreStep ℕ) (left : List (Mark ℕ)) (out : Option ℕ) → HasTurned old new t left → NotOwn t (standing_of old.cell).job → IsOutWith (standing_of old.cell) out → IsOutWith (standing_of new.cell) out
out_stays old new t left None turned other h = tt
out_stays old new t left (Some b) turned other h =
    let (j, was) = open_job (standing_of old.cell).job h.0 in
    let (k, now, same) = still_job j (standing_of new.cell).job (calls_stay old.cell new.cell t left j turned.turn turned.leads was (other j was)) in
    (is_open (standing_of new.cell).job k now, made_stays_made old.cell new.cell t left j k turned.turn turned.leads was now h.1)

-- after a turn that answers no Make

abbrev pub MakesNone : Cell → CoreStep ℕ → Type 0
MakesNone c t = (b : ℕ) → IsMakeAnswered c t b → ⊥

was_made : (old new : Turning) (t : CoreStep ℕ) (left : List (Mark ℕ)) (link : Option Linked) (b : ℕ) → MakesNone old.cell t → boot_of link ≡ made_boot (standing_of old.cell) → (made_boot (standing_of old.cell) ≡ Some b) ⊎ IsMakeAnswered old.cell t b → boot_of link ≡ Some b
was_made old new t left link b none is (inl e) = is ∙ e
was_made old new t left link b none is (inr m) = absurd (none b m)

pub linked_after : (old new : Turning) (t : CoreStep ℕ) (left : List (Mark ℕ)) (out : Option ℕ) (link : Option Linked) → HasTurned old new t left → MakesNone old.cell t → NotOwn t (standing_of old.cell).job → IsLinked old out link
    → IsLinked new out (kept_link (made_boot (standing_of new.cell)) link)
linked_after old new t left out link turned none other h = record {
  agrees = phases_agree old.cell new.cell t left turned.turn turned.leads h.agrees;
  made =
      kept_boot (made_boot (standing_of new.cell)) link
      (λ b is. was_made old new t left link b none h.made (made_by_its_make old.cell new.cell t left b turned.turn turned.leads h.agrees is));
  whole =
      kept_whole (made_boot (standing_of new.cell)) out (boot_heard new.cell.ears) link
      (subst (λ (heard : Option ℕ). IsWholeBut out heard link) (sym (ap boot_heard turned.leads.ears ∙ heard_after t old.cell.ears)) h.whole);
  out_with = out_stays old new t left out turned other h.out_with;
}

-- steps that are no call's

abbrev pub IsAside : CoreStep ℕ → Type 0
IsAside (step.Look n who d first) = ⊥
IsAside (step.BeginOp n who d) = ⊥
IsAside (step.TakeUp n who d) = ⊥
IsAside (step.Back n x) = ⊥
IsAside (step.Phase n who) = ⊥
IsAside other = Unit {0}

aside_none : (c : Cell) (t : CoreStep ℕ) → IsAside t → MakesNone c t
aside_none c (step.Look n who d first) h b m = m
aside_none c (step.BeginOp n who d) h b m = m
aside_none c (step.TakeUp n who d) h b m = m
aside_none c (step.Back n x) h b m = h
aside_none c (step.Phase n who) h b m = m
aside_none c other h b m = m

aside_other : (t : CoreStep ℕ) (o : Option OpenJob) → IsAside t → NotOwn t o
aside_other (step.Look n who d first) o h j is own = h
aside_other (step.BeginOp n who d) o h j is own = h
aside_other (step.TakeUp n who d) o h j is own = h
aside_other (step.Back n x) o h j is own = h
aside_other (step.Phase n who) o h j is own = h
aside_other other o h j is own = own

pub aside_linked : (old new : Turning) (t : CoreStep ℕ) (H : List (Mark ℕ) → Type 0) (out : Option ℕ) (link : Option Linked) → IsAside t → Takes old new t H → IsLinked old out link
    → IsLinked new out (kept_link (made_boot (standing_of new.cell)) link)
aside_linked old new t H out link aside takes h = linked_after old new t takes.0 out link takes.1 (aside_none old.cell t aside) (aside_other t (standing_of old.cell).job aside) h

-- where nothing has changed

same_kept : (made : Option ℕ) (link : Option Linked) → boot_of link ≡ made → kept_link made link ≡ link
same_kept made None e = refl
same_kept None (Some l) e = cc
same_kept (Some b) (Some l) e = ap (λ (t : Bool). if t then Some l else None) (same_true b l.boot (sym (some_is l.boot b e)))

pub same_linked : (old new : Turning) (out : Option ℕ) (link : Option Linked) → new.cell ≡ old.cell → IsLinked old out link → IsLinked new out (kept_link (made_boot (standing_of new.cell)) link)
same_linked old new out link same h =
    let made : boot_of link ≡ made_boot (standing_of new.cell) = subst (λ (c : Cell). boot_of link ≡ made_boot (standing_of c)) (sym same) h.made in
    subst (λ (l : Option Linked). IsLinked new out l) (sym (same_kept (made_boot (standing_of new.cell)) link made))
    (record {
      agrees = subst (λ (c : Cell). Agrees (standing_of c)) (sym same) h.agrees;
      made = made;
      whole = subst (λ (c : Cell). IsWholeBut out (boot_heard c.ears) link) (sym same) h.whole;
      out_with = subst (λ (c : Cell). IsOutWith (standing_of c) out) (sym same) h.out_with;
    })

-- the monitor goes out

not_made : (made : Option ℕ) (b : Bool) (live : Option ℕ) (boot : ℕ) → made ≡ made_in b live → made ≡ Some boot → b ≡ false
not_made made true live boot e f = cc
not_made made false live boot e f = refl

out_with_made : (s : Standing) (made : Option ℕ) → made ≡ made_boot s → IsOpen s.job → IsOutWith s made
out_with_made s None e is = tt
out_with_made s (Some b) e is = (is, not_made (Some b) (makes s.operation) (live_boot s.state) b e refl)

out_boot : (link : Option Linked) → boot_of (without_monitor link) ≡ boot_of link
out_boot None = refl
out_boot (Some l) = refl

out_whole : (made out heard : Option ℕ) (link : Option Linked) → boot_of link ≡ made → IsWholeBut out heard link → IsWholeBut made heard (without_monitor link)
out_whole made out heard None e h = tt
out_whole None out heard (Some l) e h = cc
out_whole (Some b) out heard (Some l) e h = (ap not (sym (same_true b l.boot (sym (some_is l.boot b e)))), h.1)

pub goes_out : (t : Turning) (out : Option ℕ) (link : Option Linked) → IsOpen (standing_of t.cell).job → IsLinked t out link → IsLinked t (made_boot (standing_of t.cell)) (without_monitor link)
goes_out t out link is h = record {
  agrees = h.agrees;
  made = out_boot link ∙ h.made;
  whole = out_whole (made_boot (standing_of t.cell)) out (boot_heard t.cell.ears) link h.made h.whole;
  out_with = out_with_made (standing_of t.cell) (made_boot (standing_of t.cell)) refl is;
}

-- where no monitor is out, the link has it

monitor_here : (made heard : Option ℕ) (link : Option Linked) → boot_of link ≡ made → IsWholeBut None heard link → is_some (monitor_in link) ≡ is_some made
monitor_here None heard None e h = refl
monitor_here (Some b) heard None e h = cc
monitor_here None heard (Some l) e h = cc
monitor_here (Some b) heard (Some l) e h = h.0

pub has_it : (t : Turning) (link : Option Linked) → IsLinked t None link → is_some (monitor_in link) ≡ is_some (made_boot (standing_of t.cell))
has_it t link h = monitor_here (made_boot (standing_of t.cell)) (boot_heard t.cell.ears) link h.made h.whole

-- the call that asks is open, and of its number

asks_if : (s : Standing) (j : OpenJob) (answers : List Answer) (n : ℕ) (x : Ask) (t : Bool) → (j.number == n) ≡ t
    → AsksLast (if t then Some (record { job = as_let_in j; asks = asks_so_far s j.job j answers; answers = answers }) else None) x → j.number ≡ n
asks_if s j answers n x true e k = same_by j.number n true e refl
asks_if s j answers n x false e k = absurd k

pub asks_job : (s : Standing) (o : Option OpenJob) (answers : List Answer) (n : ℕ) (x : Ask) → AsksLast (call_of s o answers n) x → (j : OpenJob) × (o ≡ Some j) × (j.number ≡ n)
asks_job s None answers n x h = absurd h
asks_job s (Some j) answers n x h = (j, refl, asks_if s j answers n x (j.number == n) refl h)

-- a call that is admitted finds no monitor out

let_in_alone : (old new : Turning) (t : CoreStep ℕ) (left : List (Mark ℕ)) (n : ℕ) (x : Ask) (out : Option ℕ) → HasTurned old new t left → NotOwn t (standing_of old.cell).job
    → ((j : OpenJob) → (standing_of old.cell).job ≡ Some j → j.number ≡ n → ⊥) → AsksLast (share_of new.cell n).call x → IsOutWith (standing_of old.cell) out → out ≡ None
let_in_alone old new t left n x None turned other unlike asks h = refl
let_in_alone old new t left n x (Some b) turned other unlike asks h =
    let (j, was) = open_job (standing_of old.cell).job h.0 in
    let (k, now, same) = still_job j (standing_of new.cell).job (calls_stay old.cell new.cell t left j turned.turn turned.leads was (other j was)) in
    let (i, is, own) = asks_job (standing_of new.cell) (standing_of new.cell).job new.cell.answers n x asks in
    let one : k ≡ i = cc in
    absurd (unlike j was (sym (ap (λ (o : OpenJob). o.number) same) ∙ ap (λ (o : OpenJob). o.number) one ∙ own))

now_open : (c : Cell) (n : ℕ) (x : Ask) → AsksLast (share_of c n).call x → IsOpen (standing_of c).job
now_open c n x asks = let (i, is, own) = asks_job (standing_of c) (standing_of c).job c.answers n x asks in is_open (standing_of c).job i is

-- what a turn that asks leaves of the link, and the monitor of its ticket
pub record GoesWith (new : Turning) (out : Option ℕ) (link : Option Linked) : Type 0 where
  pub linked : IsLinked new (made_boot (standing_of new.cell)) (without_monitor link)
  pub monitor : is_some (monitor_in link) ≡ is_some (made_boot (standing_of new.cell))

goes_with : (old new : Turning) (t : CoreStep ℕ) (left : List (Mark ℕ)) (n : ℕ) (x : Ask) (out : Option ℕ) (link : Option Linked) → HasTurned old new t left → MakesNone old.cell t → NotOwn t (standing_of old.cell).job
    → ((j : OpenJob) → (standing_of old.cell).job ≡ Some j → j.number ≡ n → ⊥) → AsksLast (share_of new.cell n).call x → IsLinked old out link
    → GoesWith new out (kept_link (made_boot (standing_of new.cell)) link)
goes_with old new t left n x out link turned none other unlike asks h =
    let mid : IsLinked new out (kept_link (made_boot (standing_of new.cell)) link) = linked_after old new t left out link turned none other h in
    let free : out ≡ None = let_in_alone old new t left n x out turned other unlike asks h.out_with in
    let here : IsLinked new None (kept_link (made_boot (standing_of new.cell)) link) = subst (λ (o : Option ℕ). IsLinked new o (kept_link (made_boot (standing_of new.cell)) link)) free mid in
    record { linked = goes_out new out (kept_link (made_boot (standing_of new.cell)) link) (now_open new.cell n x asks) mid; monitor = has_it new (kept_link (made_boot (standing_of new.cell)) link) here }

-- what the turn of a ticket leaves: the link, which boot's monitor is out, and whether the ticket has it
pub record Hands (away : Bool) (old new : Turning) (out : Option ℕ) (link : Option Linked) : Type 0 where
  pub linked : IsLinked new (out_by away (made_boot (standing_of new.cell)) out) (link_by away link)
  pub monitor : away ≡ true → is_some (monitor_in link) ≡ is_some (out_by away (made_boot (standing_of new.cell)) out)

away_hands : (old new : Turning) (out : Option ℕ) (link : Option Linked) → GoesWith new out link → Hands true old new out link
away_hands old new out link h = record { linked = h.linked; monitor = λ e. h.monitor }

stays_hands : (old new : Turning) (out : Option ℕ) (link : Option Linked) → IsLinked new out link → Hands false old new out link
stays_hands old new out link h = record { linked = h; monitor = λ e. cc }

-- a look

pub not_job : (o : Option OpenJob) (n : ℕ) (j : OpenJob) → IsNotJobOf o n → o ≡ Some j → j.number ≡ n → ⊥
not_job None n j h is e = cc
not_job (Some i) n j h is e = h (sym (ap (λ (o : OpenJob). o.number) (some_job i j is) ∙ e)) where
  some_job : (i j : OpenJob) → Some i ≡ Some j → i ≡ j
  some_job i j is = cc

none_in_look : (c : Cell) (n : ℕ) (who : Who) (d : Call) (f : First) → MakesNone c (step.Look n who d f)
none_in_look c n who d f b m = m

pub look_hands : {G M E Z : Type 0} (old new : Turning) (n : ℕ) (who : Who) (d : Call) (f : First) (r : Look G M E Z) (out : Option ℕ) (link : Option Linked) → CanLook old.cell n who d f → IsLinked old out link → Looks n who d f old new (looked_of r)
    → Hands (is_some (look_ticket r)) old new out (kept_link (made_boot (standing_of new.cell)) link)
look_hands old new n who d f (look.Away t x) out link can h looks =
    away_hands old new out (kept_link (made_boot (standing_of new.cell)) link)
    (goes_with old new (step.Look n who d f) looks.0 n x out link looks.1 (none_in_look old.cell n who d f)
    (λ j is own. not_job (standing_of old.cell).job n j can.none_open.no_call is own)
    (λ j is own. not_job (standing_of old.cell).job n j can.none_open.no_call is own) looks.2.1 h)
look_hands old new n who d f (look.Done r) out link can h looks =
    stays_hands old new out (kept_link (made_boot (standing_of new.cell)) link)
    (linked_after old new (step.Look n who d f) looks.0 out link looks.1 (none_in_look old.cell n who d f) (λ j is own. not_job (standing_of old.cell).job n j can.none_open.no_call is own) h)
look_hands old new n who d f (look.Excluded held boot count) out link can h looks =
    stays_hands old new out (kept_link (made_boot (standing_of new.cell)) link)
    (linked_after old new (step.Look n who d f) looks.0 out link looks.1 (none_in_look old.cell n who d f) (λ j is own. not_job (standing_of old.cell).job n j can.none_open.no_call is own) h)
look_hands old new n who d f (look.WaitersFull w) out link can h looks =
    stays_hands old new out (kept_link (made_boot (standing_of new.cell)) link)
    (linked_after old new (step.Look n who d f) looks.0 out link looks.1 (none_in_look old.cell n who d f) (λ j is own. not_job (standing_of old.cell).job n j can.none_open.no_call is own) h)
look_hands old new n who d f look.NoMemory out link can h looks =
    stays_hands old new out (kept_link (made_boot (standing_of new.cell)) link)
    (linked_after old new (step.Look n who d f) looks.0 out link looks.1 (none_in_look old.cell n who d f) (λ j is own. not_job (standing_of old.cell).job n j can.none_open.no_call is own) h)

-- calls that begin an operation, or take one up

pub operation_turned : (t : CoreStep ℕ) (marks : List (Mark ℕ)) (n : ℕ) (who : Who) (d : Call) (old new : Turning) (r : OperationLook) → OperationLooks t marks n who d old new r → (left : List (Mark ℕ)) × HasTurned old new t left
operation_turned t marks n who d old new operation.Begun h = (h.0, h.1)
operation_turned t marks n who d old new (operation.Done r) h = (h.0, h.1)
operation_turned t marks n who d old new (operation.Excluded held boot count) h = (h.0, h.1)
operation_turned t marks n who d old new (operation.WaitersFull w) h = (h.0, h.1)
operation_turned t marks n who d old new operation.NoMemory h = (h.0, h.1)

pub begin_linked : (old new : Turning) (n : ℕ) (who : Who) (d : Call) (marks : List (Mark ℕ)) (r : OperationLook) (out : Option ℕ) (link : Option Linked) → CanTake old.cell (step.BeginOp n who d) → IsLinked old out link
    → OperationLooks (step.BeginOp n who d) marks n who d old new r → IsLinked new out (kept_link (made_boot (standing_of new.cell)) link)
begin_linked old new n who d marks r out link can h looks =
    let turned = operation_turned (step.BeginOp n who d) marks n who d old new r looks in
    linked_after old new (step.BeginOp n who d) turned.0 out link turned.1 (λ b m. m) (λ j is own. not_job (standing_of old.cell).job n j can.0.no_call is own) h

pub take_up_linked : (old new : Turning) (n : ℕ) (who : Who) (d : Call) (marks : List (Mark ℕ)) (r : OperationLook) (out : Option ℕ) (link : Option Linked) → CanTake old.cell (step.TakeUp n who d) → IsLinked old out link
    → OperationLooks (step.TakeUp n who d) marks n who d old new r → IsLinked new out (kept_link (made_boot (standing_of new.cell)) link)
take_up_linked old new n who d marks r out link can h looks =
    let turned = operation_turned (step.TakeUp n who d) marks n who d old new r looks in
    linked_after old new (step.TakeUp n who d) turned.0 out link turned.1 (λ b m. m) (λ j is own. not_job (standing_of old.cell).job n j can.0.no_call is own) h

-- phases

none_is : (o : Option OpenJob) (j : OpenJob) → o ≡ None → o ≡ Some j → ⊥
none_is o j e f = cc

free_phase : (old new : Turning) (n : ℕ) (who : Who) (left : List (Mark ℕ)) (out : Option ℕ) (link : Option Linked) → (standing_of old.cell).job ≡ None → HasTurned old new (step.Phase n who) left → IsLinked old out link
    → IsLinked new out (kept_link (made_boot (standing_of new.cell)) link)
free_phase old new n who left out link free turned h =
    linked_after old new (step.Phase n who) left out link turned (λ b m. m) (λ j is own. none_is (standing_of old.cell).job j free is) h

-- where what is in force has not changed

made_same : (s t : Standing) → t ≡ s → made_boot t ≡ made_boot s
made_same s t e = ap made_boot e

pub same_standing : (old new : Turning) (out : Option ℕ) (link : Option Linked) → standing_of new.cell ≡ standing_of old.cell → boot_heard new.cell.ears ≡ boot_heard old.cell.ears → IsLinked old out link → IsLinked new out link
same_standing old new out link same heard h = record {
  agrees = subst (λ (s : Standing). Agrees s) (sym same) h.agrees;
  made = h.made ∙ sym (made_same (standing_of old.cell) (standing_of new.cell) same);
  whole = subst (λ (b : Option ℕ). IsWholeBut out b link) (sym heard) h.whole;
  out_with = subst (λ (s : Standing). IsOutWith s out) (sym same) h.out_with;
}

pub same_keeps : (old new : Turning) (out : Option ℕ) (link : Option Linked) → standing_of new.cell ≡ standing_of old.cell → boot_heard new.cell.ears ≡ boot_heard old.cell.ears → IsLinked old out link
    → IsLinked new out (kept_link (made_boot (standing_of new.cell)) link)
same_keeps old new out link same heard h =
    let linked : IsLinked new out link = same_standing old new out link same heard h in
    subst (λ (l : Option Linked). IsLinked new out l) (sym (same_kept (made_boot (standing_of new.cell)) link linked.made)) linked

-- a step that leaves no mark, and begins no chapter

abbrev pub IsInChapter : CoreStep ℕ → Type 0
IsInChapter (step.Rotate n who) = ⊥
IsInChapter other = Unit {0}

base_is : (c : Cell) (t : CoreStep ℕ) → IsInChapter t → base_after c t ≡ c.base
base_is c (step.Rotate n who) h = absurd h
base_is c other h = refl

marks_are : (c : Cell) (t : CoreStep ℕ) (left : List (Mark ℕ)) → IsInChapter t → marks_after c t left ≡ c.marks ++ left
marks_are c (step.Rotate n who) left h = absurd h
marks_are c other left h = refl

unmarked : (old new : Turning) (t : CoreStep ℕ) (left : List (Mark ℕ)) → IsInChapter t → left ≡ [] → HasTurned old new t left → standing_of new.cell ≡ standing_of old.cell
unmarked old new t left in_chapter none turned =
    on_base old.cell new.cell left (turned.leads.base ∙ base_is old.cell t in_chapter) (turned.leads.marks ∙ marks_are old.cell t left in_chapter)
    ∙ ap (λ (marks : List (Mark ℕ)). standing (standing_of old.cell) marks) none

heard_stays : (old new : Turning) (t : CoreStep ℕ) (left : List (Mark ℕ)) → HasTurned old new t left → boot_heard new.cell.ears ≡ boot_heard old.cell.ears
heard_stays old new t left turned = ap boot_heard turned.leads.ears ∙ heard_after t old.cell.ears

pub unmarked_linked : (old new : Turning) (t : CoreStep ℕ) (left : List (Mark ℕ)) (out : Option ℕ) (link : Option Linked) → IsInChapter t → left ≡ [] → HasTurned old new t left → IsLinked old out link
    → IsLinked new out (kept_link (made_boot (standing_of new.cell)) link)
unmarked_linked old new t left out link in_chapter none turned h = same_keeps old new out link (unmarked old new t left in_chapter none turned) (heard_stays old new t left turned) h

pub phase_hands : {G M E Z : Type 0} (old new : Turning) (n : ℕ) (who : Who) (r : PhaseLook G M E Z) (out : Option ℕ) (link : Option Linked) → IsLinked old out link → Phases n who old new (phased_of r)
    → Hands (is_some (phase_ticket r)) old new out (kept_link (made_boot (standing_of new.cell)) link)
phase_hands old new n who (phase.Away t x) out link h phases =
    away_hands old new out (kept_link (made_boot (standing_of new.cell)) link)
    (goes_with old new (step.Phase n who) phases.1.0 n x out link phases.1.1 (λ b m. m)
    (λ j is own. none_is (standing_of old.cell).job j phases.0 is)
    (λ j is own. none_is (standing_of old.cell).job j phases.0 is) phases.1.2.1 h)
phase_hands old new n who (phase.Phased st) out link h phases =
    stays_hands old new out (kept_link (made_boot (standing_of new.cell)) link) (free_phase old new n who phases.1.0 out link phases.0 phases.1.1 h)
phase_hands old new n who phase.Excluded out link h phases =
    stays_hands old new out (kept_link (made_boot (standing_of new.cell)) link) (unmarked_linked old new (step.Phase n who) phases.1.0 out link tt phases.1.2 phases.1.1 h)
phase_hands old new n who phase.NoMemory out link h phases =
    stays_hands old new out (kept_link (made_boot (standing_of new.cell)) link) (free_phase old new n who phases.1.0 out link phases.0 phases.1.1 h)

-- an answer comes, and the monitor with it

out_there : (out : Option ℕ) (b : ℕ) → is_boot out b ≡ true → is_some out ≡ true
out_there None b e = cc
out_there (Some o) b e = refl

in_if : (out heard : Option ℕ) (m : Option MonitorView) (l : Linked) (t : Bool) → is_some m ≡ is_some out → is_boot out l.boot ≡ t → IsWholeBut out heard (Some l)
    → IsWholeBut None heard (if t then Some (record l { monitor = m }) else Some l)
in_if out heard m l true has e h = (has ∙ out_there out l.boot e, h.1)
in_if out heard m l false has e h = (h.0 ∙ ap not e, h.1)

in_whole : (out heard : Option ℕ) (m : Option MonitorView) (link : Option Linked) → is_some m ≡ is_some out → IsWholeBut out heard link → IsWholeBut None heard (with_monitor out m link)
in_whole out heard m None has h = tt
in_whole out heard m (Some l) has h = in_if out heard m l (is_boot out l.boot) has refl h

in_boot_if : (m : Option MonitorView) (l : Linked) (t : Bool) → boot_of (if t then Some (record l { monitor = m }) else Some l) ≡ Some l.boot
in_boot_if m l true = refl
in_boot_if m l false = refl

in_boot : (out : Option ℕ) (m : Option MonitorView) (link : Option Linked) → boot_of (with_monitor out m link) ≡ boot_of link
in_boot out m None = refl
in_boot out m (Some l) = in_boot_if m l (is_boot out l.boot)

pub comes_in : (t : Turning) (out : Option ℕ) (m : Option MonitorView) (link : Option Linked) → is_some m ≡ is_some out → IsLinked t out link → IsLinked t None (with_monitor out m link)
comes_in t out m link has h = record { agrees = h.agrees; made = in_boot out m link ∙ h.made; whole = in_whole out (boot_heard t.cell.ears) m link has h.whole; out_with = tt }

-- the last ask is one

last_in : List Ask → Option Ask
last_in [] = None
last_in (a ∷ []) = Some a
last_in (a ∷ b ∷ asks) = last_in (b ∷ asks)

last_is : (before : List Ask) (y : Ask) → last_in (before ++ y ∷ []) ≡ Some y
unfolding last_in
last_is [] y = refl
last_is (a ∷ []) y = refl
last_is (a ∷ b ∷ before) y = last_is (b ∷ before) y

some_ask : (x y : Ask) → Some x ≡ Some y → x ≡ y
some_ask x y e = cc

one_last : (c : Cell) (o : Option OpenJob) (x y : Ask) → AsksThis c o x → AsksThis c o y → x ≡ y
one_last c None x y h g = absurd h
one_last c (Some j) x y h g = some_ask x y (sym (last_is h.0 x) ∙ ap last_in (sym h.1 ∙ g.1) ∙ last_is g.0 y)

-- the link of a guest that was made comes with its answer

fresh_by : (c : Cell) (n : ℕ) (x : Answer) (sent fresh : Bool) (b : ℕ) → IsAnswered c sent x fresh → IsMakeAnswered c (step.Back n x) b → fresh ≡ true
fresh_by c n x sent fresh b h m =
    let (ok, def, asks) = m in
    let last : h.last ≡ ask.Make def b = one_last c (standing_of c).job h.last (ask.Make def b) h.asks asks in
    h.link ∙ ap (λ (y : Ask). comes y (is_ok_answer x)) last ∙ ok

new_boot : (heard : Option ℕ) (b : ℕ) (fresh : Option LinkView) → is_some fresh ≡ true → boot_of (new_link fresh heard b) ≡ Some b
new_boot heard b (Some l) e = refl
new_boot heard b None e = cc

or_new : (fresh : Option LinkView) (heard : Option ℕ) (b : ℕ) (l : Linked) (t : Bool) → (l.boot == b) ≡ t → ((l.boot ≡ b → ⊥) → is_some fresh ≡ true) → boot_of (if t then Some l else new_link fresh heard b) ≡ Some b
or_new fresh heard b l true e h = ap Some (same_by l.boot b true e refl)
or_new fresh heard b l false e h = new_boot heard b fresh (h (λ is. differs (l.boot == b) e (same_true l.boot b is))) where
  differs : (t : Bool) → t ≡ false → t ≡ true → ⊥
  differs t e f = cc

none_some : (b : ℕ) → None ≡ Some b → ⊥
none_some b e = cc

made_link : (fresh : Option LinkView) (heard made : Option ℕ) (link : Option Linked) → ((b : ℕ) → made ≡ Some b → (boot_of link ≡ Some b) ⊎ (is_some fresh ≡ true)) → boot_of (link_made fresh heard made link) ≡ made
made_link fresh heard None link h = refl
made_link fresh heard (Some b) None h = new_boot heard b fresh (either (h b refl)) where
  either : (None ≡ Some b) ⊎ (is_some fresh ≡ true) → is_some fresh ≡ true
  either (inl e) = absurd (none_some b e)
  either (inr e) = e
made_link fresh heard (Some b) (Some l) h = or_new fresh heard b l (l.boot == b) refl (λ unlike. either unlike (h b refl)) where
  either : (l.boot ≡ b → ⊥) → (Some l.boot ≡ Some b) ⊎ (is_some fresh ≡ true) → is_some fresh ≡ true
  either unlike (inl e) = absurd (unlike (some_is l.boot b e))
  either unlike (inr e) = e

has_unless : (t : Bool) (ears : EarsView) → is_some (ears_unless t ears) ≡ not t
has_unless true ears = refl
has_unless false ears = refl

new_whole : (fresh : Option LinkView) (heard : Option ℕ) (b : ℕ) → IsWholeBut None heard (new_link fresh heard b)
new_whole (Some l) heard b = (refl, has_unless (is_boot heard b) l.ears)
new_whole None heard b = tt

whole_if : (fresh : Option LinkView) (heard : Option ℕ) (b : ℕ) (l : Linked) (t : Bool) → IsWholeBut None heard (Some l) → IsWholeBut None heard (if t then Some l else new_link fresh heard b)
whole_if fresh heard b l true h = h
whole_if fresh heard b l false h = new_whole fresh heard b

made_whole : (fresh : Option LinkView) (heard made : Option ℕ) (link : Option Linked) → IsWholeBut None heard link → IsWholeBut None heard (link_made fresh heard made link)
made_whole fresh heard None link h = tt
made_whole fresh heard (Some b) None h = new_whole fresh heard b
made_whole fresh heard (Some b) (Some l) h = whole_if fresh heard b l (l.boot == b) h

made_either : (old new : Turning) (n : ℕ) (x : Answer) (left : List (Mark ℕ)) (sent fresh : Bool) (link : Option Linked) (b : ℕ) → boot_of link ≡ made_boot (standing_of old.cell) → IsAnswered old.cell sent x fresh
    → (made_boot (standing_of old.cell) ≡ Some b) ⊎ IsMakeAnswered old.cell (step.Back n x) b → (boot_of link ≡ Some b) ⊎ (fresh ≡ true)
made_either old new n x left sent fresh link b is answered (inl e) = inl (is ∙ e)
made_either old new n x left sent fresh link b is answered (inr m) = inr (fresh_by old.cell n x sent fresh b answered m)

back_linked : (old new : Turning) (n : ℕ) (x : Answer) (left : List (Mark ℕ)) (sent : Bool) (fresh : Option LinkView) (link : Option Linked) → HasTurned old new (step.Back n x) left → IsAnswered old.cell sent x (is_some fresh) → IsLinked old None link
    → IsLinked new None (link_made fresh (boot_heard new.cell.ears) (made_boot (standing_of new.cell)) link)
back_linked old new n x left sent fresh link turned answered h = record {
  agrees = phases_agree old.cell new.cell (step.Back n x) left turned.turn turned.leads h.agrees;
  made =
      made_link fresh (boot_heard new.cell.ears) (made_boot (standing_of new.cell)) link
      (λ b is. made_either old new n x left sent (is_some fresh) link b h.made answered (made_by_its_make old.cell new.cell (step.Back n x) left b turned.turn turned.leads h.agrees is));
  whole =
      made_whole fresh (boot_heard new.cell.ears) (made_boot (standing_of new.cell)) link
      (subst (λ (heard : Option ℕ). IsWholeBut None heard link) (sym (heard_stays old new (step.Back n x) left turned)) h.whole);
  out_with = tt;
}

pub back_hands : {G M E Z : Type 0} (old new : Turning) (n : ℕ) (x : Answer) (sent : Bool) (fresh : Option LinkView) (m : Option MonitorView) (r : Back G M E Z) (out : Option ℕ) (link : Option Linked) → is_some m ≡ is_some out → IsAnswered old.cell sent x (is_some fresh) → IsLinked old out link → GoesBack n x old new (back_of r)
    → Hands (is_some (back_ticket r)) old new None (link_made fresh (boot_heard new.cell.ears) (made_boot (standing_of new.cell)) (with_monitor out m link))
back_hands old new n x sent fresh m (back.Done r) out link has answered h goes =
    stays_hands old new None (link_made fresh (boot_heard new.cell.ears) (made_boot (standing_of new.cell)) (with_monitor out m link))
    (back_linked old new n x goes.0 sent fresh (with_monitor out m link) goes.1 answered (comes_in old out m link has h))
back_hands old new n x sent fresh m (back.Phased st) out link has answered h goes =
    stays_hands old new None (link_made fresh (boot_heard new.cell.ears) (made_boot (standing_of new.cell)) (with_monitor out m link))
    (back_linked old new n x goes.0 sent fresh (with_monitor out m link) goes.1 answered (comes_in old out m link has h))
back_hands old new n x sent fresh m (back.Away t y) out link has answered h goes =
    let kept = link_made fresh (boot_heard new.cell.ears) (made_boot (standing_of new.cell)) (with_monitor out m link) in
    let linked : IsLinked new None kept = back_linked old new n x goes.0 sent fresh (with_monitor out m link) goes.1 answered (comes_in old out m link has h) in
    away_hands old new None kept (record { linked = goes_out new None kept (now_open new.cell n y goes.2.1) linked; monitor = has_it new kept linked })

-- clients

taking_same : (old new : Turning) (n client : ℕ) → IsTaking n client old new → (standing_of new.cell ≡ standing_of old.cell) × (boot_heard new.cell.ears ≡ boot_heard old.cell.ears)
taking_same old new n client h = (unmarked old new (step.Take n client) h.0 tt h.2 h.1, heard_stays old new (step.Take n client) h.0 h.1)

pub drop_linked : (old new : Turning) (n client : ℕ) (out : Option ℕ) (link : Option Linked) → IsDropping n client old new → IsLinked old out link → IsLinked new out (kept_link (made_boot (standing_of new.cell)) link)
drop_linked old new n client out link (inl once) h = let same = taking_same old new n client once in same_keeps old new out link same.0 same.1 h
drop_linked old new n client out link (inr (mid, one, two)) h =
    let first = taking_same old mid n client one in
    let second = taking_same mid new n client two in
    same_keeps old new out link (second.0 ∙ first.0) (second.1 ∙ first.1) h

-- ears

lent_whole : (out made : Option ℕ) (b : ℕ) (link : Option Linked) → boot_of link ≡ made → made ≡ Some b → IsWholeBut out None link → IsWholeBut out (Some b) (without_ears link)
lent_whole out made b None e is h = tt
lent_whole out made b (Some l) e is h = (h.0, ap not (sym (same_true b l.boot (sym (some_is l.boot b (e ∙ is))))))

lent_boot_of : (link : Option Linked) → boot_of (without_ears link) ≡ boot_of link
lent_boot_of None = refl
lent_boot_of (Some l) = refl

pub lends_linked : (t : Turning) (n b : ℕ) (out : Option ℕ) (link : Option Linked) → t.cell.ears ≡ None → made_boot (standing_of t.cell) ≡ Some b → IsLinked t out link
    → IsLinked (record t { cell = record t.cell { ears = Some (record { number = n; boot = b; told = false }) } }) out (without_ears link)
lends_linked t n b out link none is h = record {
  agrees = h.agrees;
  made = lent_boot_of link ∙ h.made;
  whole = lent_whole out (made_boot (standing_of t.cell)) b link h.made is (subst (λ (ears : Option LentEars). IsWholeBut out (boot_heard ears) link) none h.whole);
  out_with = h.out_with;
}

back_if : (out : Option ℕ) (boot : ℕ) (ears : EarsView) (l : Linked) (t : Bool) → (l.boot == boot) ≡ t → IsWholeBut out (Some boot) (Some l) → IsWholeBut out None (if t then Some (record l { ears = Some ears }) else Some l)
back_if out boot ears l true e h = (h.0, refl)
back_if out boot ears l false e h = (h.0, h.1 ∙ ap not (differ boot l.boot (boot == l.boot) refl (λ is. unlike (l.boot == boot) e (same_true l.boot boot (sym is))))) where
  unlike : (t : Bool) → t ≡ false → t ≡ true → ⊥
  unlike t e f = cc

back_whole : (out : Option ℕ) (boot : ℕ) (ears : EarsView) (link : Option Linked) → IsWholeBut out (Some boot) link → IsWholeBut out None (with_ears_of boot ears link)
back_whole out boot ears None h = tt
back_whole out boot ears (Some l) h = back_if out boot ears l (l.boot == boot) refl h

ears_if : (ears : EarsView) (l : Linked) (t : Bool) → boot_of (if t then Some (record l { ears = Some ears }) else Some l) ≡ Some l.boot
ears_if ears l true = refl
ears_if ears l false = refl

ears_boot : (boot : ℕ) (ears : EarsView) (link : Option Linked) → boot_of (with_ears_of boot ears link) ≡ boot_of link
ears_boot boot ears None = refl
ears_boot boot ears (Some l) = ears_if ears l (l.boot == boot)

pub returns_linked : (t : Turning) (boot : ℕ) (ears : EarsView) (out : Option ℕ) (link : Option Linked) → boot_heard t.cell.ears ≡ Some boot → IsLinked t out link
    → IsLinked (record t { cell = record t.cell { ears = None } }) out (with_ears_of boot ears link)
returns_linked t boot ears out link heard h = record {
  agrees = h.agrees;
  made = ears_boot boot ears link ∙ h.made;
  whole = back_whole out boot ears link (subst (λ (b : Option ℕ). IsWholeBut out b link) heard h.whole);
  out_with = h.out_with;
}

ears_here : (out made : Option ℕ) (b : ℕ) (link : Option Linked) → boot_of link ≡ made → made ≡ Some b → IsWholeBut out None link → is_some (ears_in link) ≡ true
ears_here out made b None e is h = absurd (none_some b (e ∙ is))
ears_here out made b (Some l) e is h = h.1

pub has_them : (t : Turning) (b : ℕ) (out : Option ℕ) (link : Option Linked) → t.cell.ears ≡ None → made_boot (standing_of t.cell) ≡ Some b → IsLinked t out link → is_some (ears_in link) ≡ true
has_them t b out link none is h =
    ears_here out (made_boot (standing_of t.cell)) b link h.made is (subst (λ (ears : Option LentEars). IsWholeBut out (boot_heard ears) link) none h.whole)

-- the guest that is there was ended

killed_whole : (out heard : Option ℕ) (link : Option Linked) → IsWholeBut out heard link → IsWholeBut out heard (killed_link link)
killed_whole out heard None h = tt
killed_whole out heard (Some l) h = h

killed_boot : (link : Option Linked) → boot_of (killed_link link) ≡ boot_of link
killed_boot None = refl
killed_boot (Some l) = refl

pub killed_linked : (t : Turning) (out : Option ℕ) (link : Option Linked) → IsLinked t out link → IsLinked t out (killed_link link)
killed_linked t out link h = record { agrees = h.agrees; made = killed_boot link ∙ h.made; whole = killed_whole out (boot_heard t.cell.ears) link h.whole; out_with = h.out_with }
