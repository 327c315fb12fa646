-- What the parts of a turn leave of the link, joined.
use Rattle.std.proofs.Common.{◌≡◌, ℕ, List, [], OnErr, OnOk, Result, Ok, Err, is_some, option_map, Bool, true, false, Option, None, Some, refl, sym, ap, ◌∙◌, subst, inl, inr}
use Rattle.domain_spec.specs.Types.{Answer, Ask, Call, Who}
use Rattle.domain_spec.specs.Types.ask
use Rattle.domain_spec.specs.declared.core_step.CoreStep.{CoreStep}
use Rattle.domain_spec.specs.declared.core_step.CoreStep.TheVariants as step
use Rattle.domain_spec.specs.declared.core_step.First.{First}
use Rattle.domain_spec.specs.declared.mark.Mark.{Mark}
use Rattle.domain_spec.specs.declared.standing.Standing.{Standing}
use Rattle.domain_spec.specs.CanTake.{CanLook}
use Rattle.domain_spec.specs.Cell.{Queue, share_of, standing_of}
use Rattle.domain_core.specs.Answering.{MayAnswer, MayGoBack}
use Rattle.domain_core.specs.Clients.{with_queue}
use Rattle.core_steps.specs.OfLedger.{Back as CoreBack}
use Rattle.core_steps.specs.OfLedger.back_variants as core_back
use Rattle.core_steps.specs.Answering.{GoesBack}
use Rattle.core_steps.specs.Looking.{Looks}
use Rattle.core_steps.specs.Turning.{HasTurned, Takes, Turning}
use Rattle.core_steps.specs.declared.looking.Looked.{Looked}
use Rattle.domain_core.specs.Held.{IsLinked, IsOutWith, boot_heard, out_by}
use Rattle.domain_core.specs.Linked.{Linked, kept_link, killed_link, link_by, link_made, monitor_in, with_monitor}
use Rattle.monitor_link.specs.Views.{LinkView, MonitorView}
use Rattle.domain_core.specs.Tickets.{HasMonitor, IsAnswered, IsAnsweredAs, back_of, back_ticket, look_ticket, looked_of, phase_ticket, phased_of}
use Rattle.domain_core.specs.declared.ticket.Back.{Back}
use Rattle.domain_core.specs.declared.ticket.Look.{Look}
use Rattle.domain_core.specs.declared.ticket.PhaseLook.{PhaseLook}
use Rattle.domain_core.specs.declared.ticket.Ticket.{Ticket}
use Rattle.domain_core.specs.Entering.{LooksFor}
use Rattle.domain_core.specs.Shares.{IsFree}
use Rattle.domain_core.proofs.Shares.{free_begin, free_take_up}
use Rattle.domain_core.proofs.Linking.{Hands, IsAside, same_keeps, aside_linked, back_hands, begin_linked, killed_linked, look_hands, operation_turned, phase_hands, take_up_linked}
use Rattle.domain_spec.proofs.TurnProofs.{holds_after, holds_led}
use Rattle.core_step_laws.specs.Steady.{IsSteady}
use Rattle.core_step_laws.proofs.Steadying.{turns_keep_steady}
use Rattle.core_owed.specs.Owing.{IsOwing}
use Rattle.core_owed.specs.OwingLaws.{LeavesNone}
use Rattle.core_owed.proofs.Turning.{turns_keep_owed}
use Rattle.domain_core.proofs.Whole.{looks_turned}
use Rattle.domain_core.proofs.Operating.{phase_turned}
use Rattle.domain_core.specs.Celled.{IsCell}
use Rattle.domain_spec.specs.declared.standing.Base.{Base}
use Rattle.domain_spec.specs.Fold.{at_base, standing}
use Rattle.domain_spec.specs.Laws.{IsCounted}
use Rattle.domain_spec.specs.Legal.{IsLegal}
use Rattle.core_steps.specs.Beginning.{Looks as OperationLooks}
use Rattle.core_steps.specs.declared.beginning.OperationLook.{OperationLook}
use Rattle.core_step_laws.specs.Made.{made_boot, makes}
use Rattle.core_steps.specs.Phasing.{Phases}
use Rattle.core_steps.specs.declared.phasing.PhaseLook.{PhaseLook as CorePhase}

-- what holds after a turn

pub cell_after : (old new : Turning) (t : CoreStep ℕ) (left : List (Mark ℕ)) (out out_now : Option ℕ) (link now : Option Linked) → HasTurned old new t left → LeavesNone t left → IsCell old out link → IsLinked new out_now now
    → IsCell new out_now now
cell_after old new t left out out_now link now turned none h linked =
    let holds = holds_led old.cell new.cell t left turned.leads (holds_after old.cell t left turned.turn (h.counted, h.legal)) in
    record {
      linked = linked;
      steady = turns_keep_steady old.cell new.cell t left turned.turn turned.leads h.steady;
      counted = holds.0;
      legal = holds.1;
      owed = turns_keep_owed old.cell new.cell t left turned.turn turned.leads none h.owed;
    }

pub cell_still : (old new : Turning) (out out_now : Option ℕ) (link now : Option Linked) → new.cell.base ≡ old.cell.base → new.cell.marks ≡ old.cell.marks → IsOwing new.cell → IsCell old out link → IsLinked new out_now now
    → IsCell new out_now now
cell_still old new out out_now link now base marks owed h linked = record {
  linked = linked;
  steady =
      subst (λ (b : Base). IsSteady (standing (at_base b) new.cell.marks)) (sym base)
      (subst (λ (ms : List (Mark ℕ)). IsSteady (standing (at_base old.cell.base) ms)) (sym marks) h.steady);
  counted = subst (λ (b : Base). IsCounted (at_base b)) (sym base) h.counted;
  legal =
      subst (λ (b : Base). IsLegal (at_base b) new.cell.marks) (sym base) (subst (λ (ms : List (Mark ℕ)). IsLegal (at_base old.cell.base) ms) (sym marks) h.legal);
  owed = owed;
}

-- the link that is kept

pub kept_by : (t : Turning) (out made : Option ℕ) (link now : Option Linked) → IsLinked t out (kept_link (made_boot (standing_of t.cell)) link) → made ≡ made_boot (standing_of t.cell) → now ≡ kept_link made link → IsLinked t out now
kept_by t out made link now h e f = subst (λ (l : Option Linked). IsLinked t out l) (sym (f ∙ ap (λ (m : Option ℕ). kept_link m link) e)) h

pub aside_kept : (old new : Turning) (t : CoreStep ℕ) (left : List (Mark ℕ)) (out made : Option ℕ) (link now : Option Linked) → IsAside t → LeavesNone t left → HasTurned old new t left → IsCell old out link → made ≡ made_boot (standing_of new.cell) → now ≡ kept_link made link
    → IsCell new out now
aside_kept old new t left out made link now aside none turned h e f =
    cell_after old new t left out out link now turned none h (kept_by new out made link now (aside_linked old new t (λ (ms : List (Mark ℕ)). ms ≡ left) out link aside (left, turned, refl) h.linked) e f)

operation_kept : (old new : Turning) (t : CoreStep ℕ) (marks : List (Mark ℕ)) (n : ℕ) (who : Who) (d : Call) (r : OperationLook) (out made : Option ℕ) (link now : Option Linked) → ((left : List (Mark ℕ)) → LeavesNone t left) → IsCell old out link → OperationLooks t marks n who d old new r
    → IsLinked new out (kept_link (made_boot (standing_of new.cell)) link) → made ≡ made_boot (standing_of new.cell) → now ≡ kept_link made link → IsCell new out now
operation_kept old new t marks n who d r out made link now none h looks linked e f =
    let turned = operation_turned t marks n who d old new r looks in
    cell_after old new t turned.0 out out link now turned.1 (none turned.0) h (kept_by new out made link now linked e f)

pub enter_kept : (old new : Turning) (n : ℕ) (who : Who) (d : Call) (r : OperationLook) (out made : Option ℕ) (link now : Option Linked) → IsFree (share_of old.cell n) who → IsCell old out link → LooksFor n who d old new r
    → made ≡ made_boot (standing_of new.cell) → now ≡ kept_link made link → IsCell new out now
enter_kept old new n who d r out made link now free h (inl (begins, looks)) e f =
    operation_kept old new (step.BeginOp n who d) _ n who d r out made link now (λ left. tt) h looks (begin_linked old new n who d _ r out link (free_begin old.cell n who d free begins) h.linked looks) e f
enter_kept old new n who d r out made link now free h (inr (takes, looks)) e f =
    operation_kept old new (step.TakeUp n who d) _ n who d r out made link now (λ left. tt) h looks (take_up_linked old new n who d _ r out link (free_take_up old.cell n who d free takes) h.linked looks) e f

-- a chapter's end, or where there was no memory for it the caller that waits no more

pub rotate_kept : {T F : Type 0} (old new : Turning) (n : ℕ) (who : Who) (r : Result T F) (q : Queue) (out made : Option ℕ) (link now : Option Linked) → IsCell old out link → OnOk r (Takes old new (step.Rotate n who) (λ left. left ≡ []))
    → OnErr r (new ≡ with_queue old q) → made ≡ made_boot (standing_of new.cell) → now ≡ kept_link made link → IsCell new out now
rotate_kept old new n who (Ok v) q out made link now h ok err e f = aside_kept old new (step.Rotate n who) ok.0 out made link now tt ok.2 ok.1 h e f
rotate_kept old new n who (Err x) q out made link now h ok err e f =
    let base : new.cell.base ≡ old.cell.base = ap (λ (t : Turning). t.cell.base) err in
    let marks : new.cell.marks ≡ old.cell.marks = ap (λ (t : Turning). t.cell.marks) err in
    cell_still old new out out link now base marks (subst (λ (t : Turning). IsOwing t.cell) (sym err) h.owed) h
    (kept_by new out made link now (same_keeps old new out link (ap (λ (t : Turning). standing_of t.cell) err) (ap (λ (t : Turning). boot_heard t.cell.ears) err) h.linked) e f)

-- the link and the monitor that goes out

pub record Handed (away : Bool) (t : Turning) (out : Option ℕ) (before link : Option Linked) : Type 0 where
  pub cell : IsCell t out link
  pub monitor : away ≡ true → is_some (monitor_in before) ≡ is_some out

handed : (old new : Turning) (t : CoreStep ℕ) (left : List (Mark ℕ)) (was_out : Option ℕ) (was : Option Linked) → HasTurned old new t left → LeavesNone t left → IsCell old was_out was → (away : Bool) (out out_now made : Option ℕ) (link before now : Option Linked) → Hands away old new out link → made ≡ made_boot (standing_of new.cell) → before ≡ link → now ≡ link_by away before
    → out_now ≡ out_by away made out → Handed away new out_now before now
handed old new t left was_out was turned none held away out out_now made link before now h e f g k =
    let to : out_now ≡ out_by away (made_boot (standing_of new.cell)) out = k ∙ ap (λ (m : Option ℕ). out_by away m out) e in
    record {
      cell =
          cell_after old new t left was_out out_now was now turned none held
          (subst (λ (o : Option ℕ). IsLinked new o now) (sym to)
          (subst (λ (l : Option Linked). IsLinked new (out_by away (made_boot (standing_of new.cell)) out) l) (sym (g ∙ ap (λ (l : Option Linked). link_by away l) f)) h.linked));
      monitor = λ is. ap (λ (l : Option Linked). is_some (monitor_in l)) f ∙ h.monitor is ∙ ap is_some (sym to);
    }

-- seen as anything else, it is there or not as it is

pub some_mapped : {A B : Type 0} (f : A → B) (o : Option A) → is_some (option_map f o) ≡ is_some o
some_mapped f None = refl
some_mapped f (Some x) = refl

pub ticket_has : {G M E Z : Type 0} (t : Option (Ticket G M E Z)) (has out : Bool) → HasMonitor has t → (is_some t ≡ true → has ≡ out) → HasMonitor out t
ticket_has None has out h e = tt
ticket_has (Some t) has out h e = h ∙ e refl

back_turned : (n : ℕ) (x : Answer) (old new : Turning) (left : CoreBack) → GoesBack n x old new left → (marks : List (Mark ℕ)) × HasTurned old new (step.Back n x) marks
back_turned n x old new (core_back.Done r) h = (h.0, h.1)
back_turned n x old new (core_back.Away y) h = (h.0, h.1)
back_turned n x old new (core_back.Phased st) h = (h.0, h.1)

pub look_handed : {G M E Z : Type 0} (old new : Turning) (n : ℕ) (who : Who) (d : Call) (f : First) (looked : Looked) (r : Look G M E Z) (out out_now made : Option ℕ) (link before now : Option Linked) → CanLook old.cell n who d f → IsCell old out link
    → Looks n who d f old new looked → looked_of r ≡ looked → made ≡ made_boot (standing_of new.cell) → before ≡ kept_link made link → now ≡ link_by (is_some (look_ticket r)) before → out_now ≡ out_by (is_some (look_ticket r)) made out
    → Handed (is_some (look_ticket r)) new out_now before now
look_handed old new n who d f looked r out out_now made link before now can h looks same e g k l =
    let turned = looks_turned n who d f old new looked looks in
    handed old new (step.Look n who d f) turned.0 out link turned.1 tt h (is_some (look_ticket r)) out out_now made (kept_link (made_boot (standing_of new.cell)) link) before now
    (look_hands old new n who d f r out link can h.linked (subst (λ (x : Looked). Looks n who d f old new x) (sym same) looks)) e (g ∙ ap (λ (m : Option ℕ). kept_link m link) e) k l

pub phase_handed : {G M E Z : Type 0} (old new : Turning) (n : ℕ) (who : Who) (looked : CorePhase) (r : PhaseLook G M E Z) (out out_now made : Option ℕ) (link before now : Option Linked) → IsCell old out link
    → Phases n who old new looked → phased_of r ≡ looked → made ≡ made_boot (standing_of new.cell) → before ≡ kept_link made link → now ≡ link_by (is_some (phase_ticket r)) before → out_now ≡ out_by (is_some (phase_ticket r)) made out
    → Handed (is_some (phase_ticket r)) new out_now before now
phase_handed old new n who looked r out out_now made link before now h looks same e g k l =
    let turned = phase_turned n who old new looked looks in
    handed old new (step.Phase n who) turned.0 out link turned.1 tt h (is_some (phase_ticket r)) out out_now made (kept_link (made_boot (standing_of new.cell)) link) before now
    (phase_hands old new n who r out link h.linked (subst (λ (x : CorePhase). Phases n who old new x) (sym same) looks)) e (g ∙ ap (λ (m : Option ℕ). kept_link m link) e) k l

pub back_handed : {G M E Z : Type 0} (old new : Turning) (n : ℕ) (x : Answer) (sent : Bool) (fresh : Option LinkView) (m : Option MonitorView) (left : CoreBack) (r : Back G M E Z) (out out_now made heard : Option ℕ) (link home before now : Option Linked) → is_some m ≡ is_some out → IsAnswered old.cell sent x (is_some fresh) → IsCell old out link
    → GoesBack n x old new left → back_of r ≡ left → made ≡ made_boot (standing_of new.cell) → heard ≡ boot_heard new.cell.ears → home ≡ with_monitor out m link → before ≡ link_made fresh heard made home
    → now ≡ link_by (is_some (back_ticket r)) before → out_now ≡ out_by (is_some (back_ticket r)) made None → Handed (is_some (back_ticket r)) new out_now before now
back_handed old new n x sent fresh m left r out out_now made heard link home before now has answered h goes same e told in_home g k l =
    let turned = back_turned n x old new left goes in
    handed old new (step.Back n x) turned.0 out link turned.1 tt h (is_some (back_ticket r)) None out_now made (link_made fresh (boot_heard new.cell.ears) (made_boot (standing_of new.cell)) (with_monitor out m link)) before now
    (back_hands old new n x sent fresh m r out link has answered h.linked (subst (λ (b : CoreBack). GoesBack n x old new b) (sym same) goes)) e
    (g ∙ ap (λ (l : Option Linked). link_made fresh heard made l) in_home ∙ ap (λ (b : Option ℕ). link_made fresh b made (with_monitor out m link)) told ∙ ap (λ (made : Option ℕ). link_made fresh (boot_heard new.cell.ears) made (with_monitor out m link)) e)
    k l

-- what is answered without a monitor was not sent; with one the guest was made

made_then : (s : Standing) (out : Option ℕ) → IsOutWith s out → is_some out ≡ true → makes s.operation ≡ false
made_then s None h e = cc
made_then s (Some b) h e = h.1

command_may : (making sent : Bool) (c : _) (x : Answer) → (sent ≡ true → making ≡ false) → IsAnsweredAs sent (ask.Command c) x → MayAnswer making (ask.Command c) x
command_may true true c x made h = let e : true ≡ false = made refl in cc
command_may false true c x made h = tt
command_may true false c x made h = h
command_may false false c x made h = tt

abbrev is_command : Ask → Bool
is_command (ask.Command c) = true
is_command other = false

other_may : (making sent : Bool) (y : Ask) (x : Answer) → is_command y ≡ false → IsAnsweredAs sent y x → MayAnswer making y x
other_may making sent (ask.Command c) x none h = cc
other_may true true (ask.Make d b) x none h = h
other_may true false (ask.Make d b) x none h = h
other_may false true (ask.Make d b) x none h = h
other_may false false (ask.Make d b) x none h = h
other_may true true (ask.Put d on) x none h = h
other_may true false (ask.Put d on) x none h = h
other_may false true (ask.Put d on) x none h = h
other_may false false (ask.Put d on) x none h = h
other_may true true (ask.Drop u) x none h = h
other_may true false (ask.Drop u) x none h = h
other_may false true (ask.Drop u) x none h = h
other_may false false (ask.Drop u) x none h = h
other_may true true (ask.Lease n m) x none h = h
other_may true false (ask.Lease n m) x none h = h
other_may false true (ask.Lease n m) x none h = h
other_may false false (ask.Lease n m) x none h = h
other_may true true (ask.WriteImage n k r d b) x none h = h
other_may true false (ask.WriteImage n k r d b) x none h = h
other_may false true (ask.WriteImage n k r d b) x none h = h
other_may false false (ask.WriteImage n k r d b) x none h = h

may_answer : (making sent : Bool) (y : Ask) (x : Answer) → (sent ≡ true → making ≡ false) → IsAnsweredAs sent y x → MayAnswer making y x
may_answer making sent (ask.Command c) x made h = command_may making sent c x made h
may_answer making sent (ask.Make d b) x made h = other_may making sent (ask.Make d b) x refl h
may_answer making sent (ask.Put d on) x made h = other_may making sent (ask.Put d on) x refl h
may_answer making sent (ask.Drop u) x made h = other_may making sent (ask.Drop u) x refl h
may_answer making sent (ask.Lease n m) x made h = other_may making sent (ask.Lease n m) x refl h
may_answer making sent (ask.WriteImage n k r d b) x made h = other_may making sent (ask.WriteImage n k r d b) x refl h

pub may_go_back : (t : Turning) (out : Option ℕ) (link : Option Linked) (sent : Bool) (x : Answer) (fresh : Bool) → IsCell t out link → sent ≡ is_some out → IsAnswered t.cell sent x fresh → MayGoBack t.cell x
may_go_back t out link sent x fresh h same answered =
    (answered.last, answered.asks, may_answer (makes (standing_of t.cell).operation) sent answered.last x (λ is. made_then (standing_of t.cell) out h.linked.out_with (sym same ∙ is)) answered.answered)

-- the guest that is there was ended

pub killed_cell : (t : Turning) (out : Option ℕ) (link : Option Linked) → IsCell t out link → IsCell t out (killed_link link)
killed_cell t out link h = record { linked = killed_linked t out link h.linked; steady = h.steady; counted = h.counted; legal = h.legal; owed = h.owed }
