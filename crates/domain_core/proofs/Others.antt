-- What a domain keeps for any other number stays through a turn.
use Rattle.std.proofs.Common.{◌≡◌, ◌≢◌, ◌⊎◌, inl, inr, ℕ, ◌==◌, List, [], ◌∷◌, ◌++◌, take, Bool, true, false, ◌||◌, Option, None, Some, IfOk, OnErr, OnOk, Result, Ok, Err, if◌then◌else◌, refl, sym, ap, ◌∙◌, subst}
use Rattle.std.specs.List.{list_any}
use Rattle.domain_spec.specs.Types.{Answer, Ask, Call, EndReason, GuestEvent, Job, State, Who}
use Rattle.domain_spec.specs.declared.core_step.CoreStep.{CoreStep}
use Rattle.domain_spec.specs.declared.core_step.CoreStep.TheVariants as step
use Rattle.domain_spec.specs.declared.core_step.First.{First}
use Rattle.domain_spec.specs.declared.mark.HeldOperation.{HeldOperation}
use Rattle.domain_spec.specs.declared.mark.Mark.{Mark}
use Rattle.domain_spec.specs.declared.open.OpenJob.{OpenJob}
use Rattle.domain_spec.specs.declared.standing.Standing.{Standing}
use Rattle.domain_spec.specs.Asks.{asks_left, asks_made}
use Rattle.domain_spec.specs.CanTake.{CanTake}
use Rattle.domain_spec.specs.Call.{job_of}
use Rattle.domain_spec.specs.Cell.{HeldEvent, LentEars, Queue, Taken, asks_so_far, ears_of, share_of}
use Rattle.domain_spec.specs.JobTable.{May}
use Rattle.domain_spec.specs.Open.{job_held, operation_held}
use Rattle.domain_spec.specs.Registrations.{is_numbered}
use Rattle.core_steps.specs.OfAsks.{Asked}
use Rattle.core_steps.specs.OfLedger.{WaitsWith}
use Rattle.core_steps.specs.Below.core_flight.Ledger.{standing_in}
use Rattle.core_steps.specs.OfLedger.{Back}
use Rattle.event_queue.specs.Listening.{AreApart, Listening, dropped_by, emptied, emptied_by, has_client, is_lost, is_of, left_by, listening_of, registrations, taken_by}
use Rattle.core_steps.specs.OfRecord.{Recorded, force_of}
use Rattle.core_step_laws.specs.Shares.{AsksStay, IsStepOf, IsToldBy, KeepsOthers}
use Rattle.core_step_laws.specs.Shares.{AreApart as AreClientsApart}
use Rattle.core_step_laws.proofs.Jobs.{differ}
use Rattle.core_step_laws.proofs.Listed.{other_head, same_head, taken_of}
use Rattle.core_step_laws.proofs.Queued.{waits_stay}
use Rattle.core_step_laws.proofs.Shares.{others_are_kept}
use Rattle.core_steps.specs.Answering.{GoesBack, IsNumbered}
use Rattle.core_steps.specs.Looking.{Looks, LooksSo, with_room}
use Rattle.core_steps.specs.Turning.{HasTurned, Takes, answers_of, cell_of, turning}
use Rattle.core_steps.specs.declared.looking.Looked.{Looked}
use Rattle.core_steps.specs.declared.refusing.Refusable.{Refusable}
use Rattle.core_steps.proofs.Asking.{asks_along}
use Rattle.core_steps.specs.Guests.{boot_to_hear, ears_lent}
use Rattle.core_steps.specs.Clients.{IsRegisteredBy, Rotates}
use Rattle.core_steps.specs.Phasing.{Phases, PhasesSo}
use Rattle.core_steps.specs.declared.beginning.OperationLook.{OperationLook}
use Rattle.core_steps.specs.declared.phasing.PhaseLook.{PhaseLook}
use Rattle.domain_core.specs.Core.{Core, HasOut, core_of}
use Rattle.domain_core.specs.Entering.{EntersSo, LooksFor}
use Rattle.domain_core.proofs.Operating.{enters_course, op_turned, phase_turned}
use Rattle.domain_core.proofs.Watching.{own_there}
use Rattle.domain_core.proofs.Whole.{left_turned, looks_turned, stays_course}

-- a call that is open before and after under another number has the course that it had
abbrev pub KeepsCourse : ℕ → Recorded → Recorded → Type 0
KeepsCourse n old new = (j k : OpenJob) → (force_of old).job ≡ Some j → (force_of new).job ≡ Some k → j.number ≢ n → new.course ≡ old.course

-- so what it asked, and was answered, stays

abbrev asked_of : Option Asked → List Ask
asked_of None = []
asked_of (Some a) = asks_made a.plan a.answers ++ take 1 (asks_left a.plan a.answers)

asks_are : (s : Standing) (o : Option OpenJob) (j : OpenJob) (a : Option Asked) → o ≡ Some j → WaitsWith s o a → asks_so_far s j.job j (answers_of a) ≡ asked_of a
asks_are s None j a is waits = cc
asks_are s (Some k) j None is waits = absurd waits
asks_are s (Some k) j (Some a) is waits =
    let same : k ≡ j = cc in subst (λ (x : OpenJob). asks_so_far s x.job x a.answers ≡ asked_of (Some a)) same (asks_along s k a waits)

asks_stay : (old new : Recorded) (q p : Queue) (held after : List HeldEvent) (ears told : Option LentEars) (n : ℕ) → WaitsWith (force_of old) (force_of old).job old.course → WaitsWith (force_of new) (force_of new).job new.course
    → KeepsCourse n old new → AsksStay n (cell_of old q held ears) (cell_of new p after told)
unfolding standing_in
asks_stay old new q p held after ears told n waits waits_now keeps j k e f same unlike =
    let course : new.course ≡ old.course = keeps j k e f unlike in (
      ap answers_of course,
      asks_are (force_of new) (force_of new).job k new.course f waits_now ∙ ap asked_of course ∙ sym (asks_are (force_of old) (force_of old).job j old.course e waits),
    )

-- no two registrations are one client's

same_client : (ls : List Listening) (client : ℕ) → list_any (is_numbered client) (registrations ls) ≡ has_client ls client
same_client [] client = refl
same_client (l ∷ ls) client = ap (λ (b : Bool). is_numbered client l.kept || b) (same_client ls client)

kept_apart : (ls : List Listening) → AreApart ls → AreClientsApart (registrations ls)
kept_apart [] apart = tt
kept_apart (l ∷ ls) apart = (same_client ls l.kept.client ∙ apart.0, kept_apart ls apart.1)

-- what is known of a turn by which others keep what they have
pub record IsQuietTurn (n : ℕ) (t : CoreStep ℕ) (ears : Option LentEars) (old new : Recorded) : Type 0 where
  pub own : IsStepOf n t
  pub told : IsToldBy n t ears
  pub apart : AreApart old.listeners
  pub waits : WaitsWith (force_of old) (force_of old).job old.course
  pub waits_now : WaitsWith (force_of new) (force_of new).job new.course
  pub course : KeepsCourse n old new

pub others_stay : (v : Core) (old new : Recorded) (q p : Queue) (held after : List HeldEvent) (ears told : Option LentEars) (x : Option Refusable) (n : ℕ) (t : CoreStep ℕ) (left : List (Mark ℕ)) → core_of old q held ears x ≡ v
    → HasTurned v.turning (turning new p after told) t left → IsQuietTurn n t ears old new → KeepsOthers n v.turning.cell (cell_of new p after told)
others_stay v old new q p held after ears told x n t left is turned quiet =
    let so = subst (λ (c : Core). HasTurned c.turning (turning new p after told) t left) (sym is) turned in
    subst (λ (c : Core). KeepsOthers n c.turning.cell (cell_of new p after told)) is
    (others_are_kept (cell_of old q held ears) (cell_of new p after told) t n left quiet.own so.turn so.leads (kept_apart old.listeners quiet.apart) quiet.told
    (asks_stay old new q p held after ears told n quiet.waits quiet.waits_now quiet.course))

-- a turn that leaves the course of a call

pub same_course : (old new : Recorded) (n : ℕ) → new.course ≡ old.course → KeepsCourse n old new
same_course old new n same j k e f unlike = same

-- a look

none_open : (o : Option OpenJob) (op : Option HeldOperation) (wanted : Job) (who : Who) (j : OpenJob) → May (job_held o) op wanted who → o ≡ Some j → ⊥
none_open None op wanted who j may e = cc
none_open (Some k) op wanted who j may e = may

look_course : (n : ℕ) (who : Who) (d : Call) (b : Option ℕ) (old new : Recorded) (q p : Queue) (result : Looked) → LooksSo n who d b old new q p result → KeepsCourse n old new
look_course n who d b old new q p result (inl h) j k e f unlike = absurd (none_open (force_of old).job (operation_held (force_of old).operation) (job_of d) who j h.0 e)
look_course n who d b old new q p result (inr h) j k e f unlike = stays_course n who d old new q p result h.1

pub look_others : (v : Core) (old new : Recorded) (q p : Queue) (held : List HeldEvent) (ears : Option LentEars) (x : Option Refusable) (n : ℕ) (who : Who) (d : Call) (first : First) (b : Option ℕ) (result : Looked) → core_of old q held ears x ≡ v
    → Looks n who d first v.turning (turning new p held ears) result → LooksSo n who d b old new q p result → AreApart old.listeners
    → WaitsWith (force_of old) (force_of old).job old.course → WaitsWith (force_of new) (force_of new).job new.course → KeepsOthers n v.turning.cell (cell_of new p held ears)
look_others v old new q p held ears x n who d first b result is looks so apart waits waits_now =
    let turned = looks_turned n who d first v.turning (turning new p held ears) result looks in
    others_stay v old new q p held held ears ears x n (step.Look n who d first) turned.0 is turned.1
    (record { own = refl; told = tt; apart = apart; waits = waits; waits_now = waits_now; course = look_course n who d b old new q p result so })

-- an answer

own_number : (o : Option OpenJob) (j : OpenJob) (n : ℕ) → IsNumbered o n → o ≡ Some j → j.number ≡ n
own_number None j n is e = absurd is
own_number (Some k) j n is e = let same : k ≡ j = cc in sym (is ∙ ap (λ (x : OpenJob). x.number) same)

pub back_others : (v : Core) (old new : Recorded) (q : Queue) (held after : List HeldEvent) (ears : Option LentEars) (x : Option Refusable) (n : ℕ) (y : Answer) (left : Back) → core_of old q held ears x ≡ v
    → GoesBack n y v.turning (turning new q after ears) left → IsNumbered (force_of old).job n → AreApart old.listeners
    → WaitsWith (force_of old) (force_of old).job old.course → WaitsWith (force_of new) (force_of new).job new.course → KeepsOthers n v.turning.cell (cell_of new q after ears)
back_others v old new q held after ears x n y left is goes own apart waits waits_now =
    let turned = left_turned n y v.turning (turning new q after ears) left goes in
    others_stay v old new q q held after ears ears x n (step.Back n y) turned.0 is turned.1
    (record { own = refl; told = tt; apart = apart; waits = waits; waits_now = waits_now; course = λ j k e f unlike. absurd (unlike (own_number (force_of old).job j n own e)) })

-- operations

none_waits : (s : Standing) (o : Option OpenJob) (a : Option Asked) (k : OpenJob) → a ≡ None → o ≡ Some k → WaitsWith s o a → ⊥
none_waits s None a k e f waits = cc
none_waits s (Some j) None k e f waits = waits
none_waits s (Some j) (Some a) k e f waits = cc

op_course : (old new : Recorded) (n : ℕ) → (new.course ≡ None) ⊎ (new.course ≡ old.course) → WaitsWith (force_of new) (force_of new).job new.course → KeepsCourse n old new
op_course old new n (inl none) waits j k e f unlike = absurd (none_waits (force_of new) (force_of new).job new.course k none f waits)
op_course old new n (inr same) waits j k e f unlike = same

pub enter_others : (v : Core) (old new : Recorded) (q p : Queue) (held : List HeldEvent) (ears : Option LentEars) (x : Option Refusable) (n : ℕ) (who : Who) (d : Call) (result : OperationLook) → core_of old q held ears x ≡ v
    → LooksFor n who d v.turning (turning new p held ears) result → EntersSo n who d old new q p result → AreApart old.listeners
    → WaitsWith (force_of old) (force_of old).job old.course → WaitsWith (force_of new) (force_of new).job new.course → KeepsOthers n v.turning.cell (cell_of new p held ears)
enter_others v old new q p held ears x n who d result is (inl (begins, looks)) so apart waits waits_now =
    let turned = op_turned (step.BeginOp n who d) _ n who d v.turning (turning new p held ears) result looks in
    others_stay v old new q p held held ears ears x n (step.BeginOp n who d) turned.0 is turned.1
    (record { own = refl; told = tt; apart = apart; waits = waits; waits_now = waits_now; course = op_course old new n (enters_course n who d old new q p result so) waits_now })
enter_others v old new q p held ears x n who d result is (inr (takes, looks)) so apart waits waits_now =
    let turned = op_turned (step.TakeUp n who d) _ n who d v.turning (turning new p held ears) result looks in
    others_stay v old new q p held held ears ears x n (step.TakeUp n who d) turned.0 is turned.1
    (record { own = refl; told = tt; apart = apart; waits = waits; waits_now = waits_now; course = op_course old new n (enters_course n who d old new q p result so) waits_now })

not_there : (o : Option OpenJob) (j : OpenJob) → o ≡ None → o ≡ Some j → ⊥
not_there None j e f = cc
not_there (Some k) j e f = cc

phase_course : (n : ℕ) (who : Who) (old new : Recorded) (result : PhaseLook) → PhasesSo n who old new result → KeepsCourse n old new
phase_course n who old new result (inl h) j k e f unlike = absurd (not_there (force_of old).job j h.0 e)
phase_course n who old new result (inr h) j k e f unlike = ap (λ (r : Recorded). r.course) h.2

pub phase_others : (v : Core) (old new : Recorded) (q : Queue) (held : List HeldEvent) (ears : Option LentEars) (x : Option Refusable) (n : ℕ) (who : Who) (result : PhaseLook) → core_of old q held ears x ≡ v
    → Phases n who v.turning (turning new q held ears) result → PhasesSo n who old new result → AreApart old.listeners
    → WaitsWith (force_of old) (force_of old).job old.course → WaitsWith (force_of new) (force_of new).job new.course → KeepsOthers n v.turning.cell (cell_of new q held ears)
phase_others v old new q held ears x n who result is phases so apart waits waits_now =
    let turned = phase_turned n who v.turning (turning new q held ears) result phases in
    others_stay v old new q q held held ears ears x n (step.Phase n who) turned.0 is turned.1
    (record { own = refl; told = tt; apart = apart; waits = waits; waits_now = waits_now; course = phase_course n who old new result so })

-- a turn that leaves some marks, and the course as it was

pub takes_others : {Holds : List (Mark ℕ) → Type 0} (v : Core) (old new : Recorded) (q p : Queue) (held after : List HeldEvent) (ears told : Option LentEars) (x : Option Refusable) (n : ℕ) (t : CoreStep ℕ) → core_of old q held ears x ≡ v
    → Takes v.turning (turning new p after told) t Holds → IsStepOf n t → IsToldBy n t ears → AreApart old.listeners
    → WaitsWith (force_of old) (force_of old).job old.course → WaitsWith (force_of new) (force_of new).job new.course → new.course ≡ old.course → KeepsOthers n v.turning.cell (cell_of new p after told)
takes_others v old new q p held after ears told x n t is takes own told_by apart waits waits_now same =
    others_stay v old new q p held after ears told x n t takes.0 is takes.1
    (record { own = own; told = told_by; apart = apart; waits = waits; waits_now = waits_now; course = same_course old new n same })

exit_by : (n boot : ℕ) (why : EndReason) (ears : Option LentEars) → HasOut n boot ears → IsToldBy n (step.Exit boot why) ears
exit_by n boot why None out = tt
exit_by n boot why (Some e) out = out.0

event_by : (n boot : ℕ) (event : GuestEvent) (ears : Option LentEars) → HasOut n boot ears → IsToldBy n (step.Event boot event) ears
event_by n boot event None out = tt
event_by n boot event (Some e) out = out.0

pub exit_others : {Holds : List (Mark ℕ) → Type 0} (v : Core) (old new : Recorded) (q : Queue) (held : List HeldEvent) (ears told : Option LentEars) (x : Option Refusable) (n boot : ℕ) (why : EndReason) → core_of old q held ears x ≡ v
    → Takes v.turning (turning new q held told) (step.Exit boot why) Holds → HasOut n boot v.turning.cell.ears → AreApart old.listeners
    → WaitsWith (force_of old) (force_of old).job old.course → WaitsWith (force_of new) (force_of new).job new.course → new.course ≡ old.course → KeepsOthers n v.turning.cell (cell_of new q held told)
exit_others v old new q held ears told x n boot why is takes out apart waits waits_now same =
    takes_others v old new q q held held ears told x n (step.Exit boot why) is takes tt (exit_by n boot why ears (subst (λ (c : Core). HasOut n boot c.turning.cell.ears) (sym is) out)) apart waits waits_now same

pub event_others : {Holds : List (Mark ℕ) → Type 0} (v : Core) (old new : Recorded) (q : Queue) (held after : List HeldEvent) (ears told : Option LentEars) (x : Option Refusable) (n boot : ℕ) (event : GuestEvent) → core_of old q held ears x ≡ v
    → Takes v.turning (turning new q after told) (step.Event boot event) Holds → HasOut n boot v.turning.cell.ears → AreApart old.listeners
    → WaitsWith (force_of old) (force_of old).job old.course → WaitsWith (force_of new) (force_of new).job new.course → new.course ≡ old.course → KeepsOthers n v.turning.cell (cell_of new q after told)
event_others v old new q held after ears told x n boot event is takes out apart waits waits_now same =
    takes_others v old new q q held after ears told x n (step.Event boot event) is takes tt (event_by n boot event ears (subst (λ (c : Core). HasOut n boot c.turning.cell.ears) (sym is) out)) apart waits waits_now same

-- ears that are lent and given back

other_ears : (e : LentEars) (n m : ℕ) → e.number ≡ n → m ≢ n → ears_of (Some e) m ≡ None
other_ears e n m own unlike = ap (λ (b : Bool). if b then Some e else None) (differ e.number m (e.number == m) refl (λ f. unlike (sym f ∙ own)))

lent_others : (s : State) (held : List HeldEvent) (ears : Option LentEars) (boot : Option ℕ) (n m : ℕ) → boot ≡ boot_to_hear s held ears → m ≢ n → ears_of (ears_lent n boot ears) m ≡ ears_of ears m
lent_others s held ears None n m heard unlike = refl
lent_others s held None (Some boot) n m heard unlike = other_ears (record { number = n; boot = boot; told = false }) n m refl unlike
lent_others s held (Some e) (Some boot) n m heard unlike = cc

ears_keep : (old new : Recorded) (q : Queue) (held after : List HeldEvent) (ears told : Option LentEars) (m : ℕ) → new ≡ with_room old new.spare → ears_of told m ≡ ears_of ears m
    → share_of (cell_of new q after told) m ≡ share_of (cell_of old q held ears) m
ears_keep old new q held after ears told m same is =
    ap (λ (r : Recorded). share_of (cell_of r q after told) m) same ∙ ap (λ (e : Option LentEars). record (share_of (cell_of old q held ears) m) { ears = e }) is

lent_by : {E : Type 0} (s : State) (held : List HeldEvent) (ears told : Option LentEars) (n m : ℕ) (result : Result (Option ℕ) E) → IfOk result (λ boot. boot ≡ boot_to_hear s held ears) → IfOk result (λ boot. told ≡ ears_lent n boot ears)
    → OnErr result (told ≡ ears) → m ≢ n → ears_of told m ≡ ears_of ears m
lent_by s held ears told n m (Ok boot) heard lent none unlike = ap (λ (e : Option LentEars). ears_of e m) lent ∙ lent_others s held ears boot n m heard unlike
lent_by s held ears told n m (Err e) heard lent none unlike = ap (λ (x : Option LentEars). ears_of x m) none

pub lend_others : {E : Type 0} (v : Core) (old new : Recorded) (q : Queue) (held after : List HeldEvent) (ears told : Option LentEars) (x : Option Refusable) (n : ℕ) (result : Result (Option ℕ) E) → core_of old q held ears x ≡ v
    → new ≡ with_room old new.spare → IfOk result (λ boot. boot ≡ boot_to_hear (force_of old).state held ears) → IfOk result (λ boot. told ≡ ears_lent n boot ears) → OnErr result (told ≡ ears)
    → KeepsOthers n v.turning.cell (cell_of new q after told)
lend_others v old new q held after ears told x n result is same heard lent none m unlike =
    ears_keep old new q held after ears told m same (lent_by (force_of old).state held ears told n m result heard lent none unlike) ∙ ap (λ (c : Core). share_of c.turning.cell m) is

none_out : (ears : Option LentEars) (n boot m : ℕ) → HasOut n boot ears → m ≢ n → None ≡ ears_of ears m
none_out None n boot m out unlike = absurd out
none_out (Some e) n boot m out unlike = sym (other_ears e n m out.0 unlike)

pub return_others : (v : Core) (r : Recorded) (q : Queue) (held : List HeldEvent) (ears told : Option LentEars) (x : Option Refusable) (n boot : ℕ) → core_of r q held ears x ≡ v → HasOut n boot v.turning.cell.ears → told ≡ None
    → KeepsOthers n v.turning.cell (cell_of r q held told)
return_others v r q held ears told x n boot is out none m unlike =
    let own = subst (λ (c : Core). HasOut n boot c.turning.cell.ears) (sym is) out in
    ap (λ (e : Option LentEars). record (share_of (cell_of r q held ears) m) { ears = ears_of e m }) none
    ∙ ap (λ (e : Option LentEars). record (share_of (cell_of r q held ears) m) { ears = e }) (none_out ears n boot m own unlike)
    ∙ ap (λ (c : Core). share_of c.turning.cell m) is

-- what one client takes, or drops

left_first : (b : Bool) (l : Listening) (ls : List Listening) (client n m : ℕ) → IsRegisteredBy (if b then Some l else listening_of ls client) n → m ≢ n
    → (IsRegisteredBy (listening_of ls client) n → taken_of m (registrations (left_by ls client)) ≡ taken_of m (registrations ls))
    → taken_of m (registrations (if b then ls else l ∷ left_by ls client)) ≡ taken_of m (registrations (l ∷ ls))
left_first true l ls client n m own unlike rest = sym (other_head m l.kept (registrations ls) (λ e. unlike (sym e ∙ own)))
left_first false l ls client n m own unlike rest = same_head m l.kept (registrations (left_by ls client)) (registrations ls) (rest own)

left_listed : (ls : List Listening) (client n m : ℕ) → IsRegisteredBy (listening_of ls client) n → m ≢ n → taken_of m (registrations (left_by ls client)) ≡ taken_of m (registrations ls)
left_listed [] client n m own unlike = absurd own
left_listed (l ∷ ls) client n m own unlike = left_first (is_of client l) l ls client n m own unlike (λ h. left_listed ls client n m h unlike)

emptied_first : (b : Bool) (l : Listening) (ls : List Listening) (client n m : ℕ) → IsRegisteredBy (if b then Some l else listening_of ls client) n → m ≢ n
    → (IsRegisteredBy (listening_of ls client) n → taken_of m (registrations (emptied_by ls client)) ≡ taken_of m (registrations ls))
    → taken_of m (registrations (if b then emptied l ∷ ls else l ∷ emptied_by ls client)) ≡ taken_of m (registrations (l ∷ ls))
emptied_first true l ls client n m own unlike rest =
    other_head m (emptied l).kept (registrations ls) (λ e. unlike (sym e ∙ own)) ∙ sym (other_head m l.kept (registrations ls) (λ e. unlike (sym e ∙ own)))
emptied_first false l ls client n m own unlike rest = same_head m l.kept (registrations (emptied_by ls client)) (registrations ls) (rest own)

emptied_listed : (ls : List Listening) (client n m : ℕ) → IsRegisteredBy (listening_of ls client) n → m ≢ n → taken_of m (registrations (emptied_by ls client)) ≡ taken_of m (registrations ls)
emptied_listed [] client n m own unlike = absurd own
emptied_listed (l ∷ ls) client n m own unlike = emptied_first (is_of client l) l ls client n m own unlike (λ h. emptied_listed ls client n m h unlike)

left_or_emptied : (b : Bool) (ls : List Listening) (client n m : ℕ) → IsRegisteredBy (listening_of ls client) n → m ≢ n
    → taken_of m (registrations (if b then left_by ls client else emptied_by ls client)) ≡ taken_of m (registrations ls)
left_or_emptied true ls client n m own unlike = left_listed ls client n m own unlike
left_or_emptied false ls client n m own unlike = emptied_listed ls client n m own unlike

listed_keep : (old new : Recorded) (q : Queue) (held : List HeldEvent) (ears : Option LentEars) (ls : List Listening) (m : ℕ) → new ≡ record old { listeners = ls } → taken_of m (registrations ls) ≡ taken_of m (registrations old.listeners)
    → share_of (cell_of new q held ears) m ≡ share_of (cell_of old q held ears) m
listed_keep old new q held ears ls m same is =
    ap (λ (r : Recorded). share_of (cell_of r q held ears) m) same ∙ ap (λ (ts : List Taken). record (share_of (cell_of old q held ears) m) { registrations = ts }) is

own_now : (v : Core) (r : Recorded) (q : Queue) (held : List HeldEvent) (ears : Option LentEars) (x : Option Refusable) (n client : ℕ) → core_of r q held ears x ≡ v → CanTake v.turning.cell (step.Take n client) → AreApart r.listeners
    → IsRegisteredBy (listening_of r.listeners client) n
own_now v r q held ears x n client is can apart = (own_there r q held ears n client (subst (λ (c : Core). CanTake c.turning.cell (step.Take n client)) (sym is) can) apart).1

pub take_others : {A E : Type 0} (v : Core) (old new : Recorded) (q : Queue) (held : List HeldEvent) (ears : Option LentEars) (x : Option Refusable) (n client : ℕ) (result : Result A E) → core_of old q held ears x ≡ v
    → CanTake v.turning.cell (step.Take n client) → AreApart old.listeners → OnOk result (new ≡ record old { listeners = taken_by old.listeners client }) → OnErr result (new ≡ old)
    → KeepsOthers n v.turning.cell (cell_of new q held ears)
take_others v old new q held ears x n client (Ok y) is can apart took none m unlike =
    listed_keep old new q held ears (taken_by old.listeners client) m took
    (left_or_emptied _ old.listeners client n m (own_now v old q held ears x n client is can apart) unlike) ∙ ap (λ (c : Core). share_of c.turning.cell m) is
take_others v old new q held ears x n client (Err e) is can apart took none m unlike =
    ap (λ (r : Recorded). share_of (cell_of r q held ears) m) none ∙ ap (λ (c : Core). share_of c.turning.cell m) is

pub drop_others : (v : Core) (old new : Recorded) (q : Queue) (held : List HeldEvent) (ears : Option LentEars) (x : Option Refusable) (n client : ℕ) → core_of old q held ears x ≡ v
    → CanTake v.turning.cell (step.Take n client) → AreApart old.listeners → new ≡ record old { listeners = dropped_by old.listeners client } → KeepsOthers n v.turning.cell (cell_of new q held ears)
drop_others v old new q held ears x n client is can apart dropped m unlike =
    listed_keep old new q held ears (dropped_by old.listeners client) m dropped
    (left_or_emptied (is_lost (listening_of old.listeners client)) old.listeners client n m (own_now v old q held ears x n client is can apart) unlike) ∙ ap (λ (c : Core). share_of c.turning.cell m) is

-- a chapter's end

pub rotate_others : {E : Type 0} (v : Core) (old new : Recorded) (q p : Queue) (held : List HeldEvent) (ears : Option LentEars) (x : Option Refusable) (n : ℕ) (who : Who) (result : Result (Unit {0}) E) → core_of old q held ears x ≡ v
    → OnOk result (Takes v.turning (turning new p held ears) (step.Rotate n who) (λ left. left ≡ [])) → Rotates n who old new q p result → AreApart old.listeners
    → WaitsWith (force_of old) (force_of old).job old.course → WaitsWith (force_of new) (force_of new).job new.course → new.course ≡ old.course → KeepsOthers n v.turning.cell (cell_of new p held ears)
rotate_others v old new q p held ears x n who (Ok y) is takes h apart waits waits_now same m unlike =
    takes_others v old new q p held held ears ears x n (step.Rotate n who) is takes refl tt apart waits waits_now same m unlike
rotate_others v old new q p held ears x n who (Err e) is takes h apart waits waits_now same m unlike =
    ap (λ (r : Recorded). share_of (cell_of r p held ears) m) h.0
    ∙ ap (λ (w : Option Who). record (share_of (cell_of old q held ears) m) { waits = w }) (waits_stay (cell_of old q held ears) (step.Rotate n who) n m [] p refl unlike (inr h.1))
    ∙ ap (λ (c : Core). share_of c.turning.cell m) is
