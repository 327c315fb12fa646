-- What is in force after an open call or a phase is closed.
use Rattle.std.proofs.Common.{◌≡◌, ℕ, List, [], ◌∷◌, ◌++◌, Bool, true, false, ◌&&◌, Option, None, Some, refl, sym, ap, ◌∙◌, subst, if◌then◌else◌, append_assoc}
use Rattle.std.specs.List.{list_any}
use Rattle.history_spec.specs.declared.stamp.Stamp.{Stamp}
use Rattle.domain_spec.specs.Types.{Answer, Ask, Call, OpKind, Refusal, State}
use Rattle.domain_spec.specs.Types.call
use Rattle.domain_spec.specs.Types.reason
use Rattle.domain_spec.specs.Types.state
use Rattle.domain_spec.specs.declared.mark.HeldOperation.{HeldOperation}
use Rattle.domain_spec.specs.declared.mark.Mark.{Mark}
use Rattle.domain_spec.specs.declared.mark.Mark.TheVariants as mark
use Rattle.domain_spec.specs.declared.open.OpenJob.{OpenJob}
use Rattle.domain_spec.specs.declared.open.OpenOperation.{OpenOperation}
use Rattle.domain_spec.specs.declared.standing.Base.{Base}
use Rattle.domain_spec.specs.declared.standing.Standing.{Standing}
use Rattle.domain_spec.specs.Asks.{first_bad, is_lost_answer}
use Rattle.domain_spec.specs.Call.{takes_up}
use Rattle.domain_spec.specs.Exit.{exit_transitions}
use Rattle.domain_spec.specs.Fold.{after, at_base, lost_boot}
use Rattle.domain_spec.specs.Legal.{IsLawful, IsLegal}
use Rattle.domain_spec.specs.Phase.{phase_of}
use Rattle.domain_spec.specs.Reading.{is_live}
use Rattle.domain_spec.specs.Sequential.{answered_step, ended_step, meets_ended, seq, tested_step}
use Rattle.domain_spec.specs.TakeUp.{is_vacant, rests_for_another}
use Rattle.domain_spec.specs.Tests.{refusal_of}
use Rattle.core_dispatch.specs.Fits.{FitsCall, FitsPhase}
use Rattle.core_dispatch.specs.declared.calls.CallParts.{CallParts}
use Rattle.core_dispatch.specs.declared.phases.PhaseParts.{PhaseParts}
use Rattle.core_dispatch.specs.declared.phases.PhaseParts.TheVariants as phase_parts
use Rattle.domain_spec.specs.declared.standing.Registration.{Registration}
use Rattle.core_mark_laws.specs.Guests.{HasOwnGuest}
use Rattle.core_mark_laws.specs.Tidy.{IsTidy}
use Rattle.core_mark_laws.proofs.OwnGuests.{mark_keeps_guests}
use Rattle.core_mark_laws.proofs.TidyCalls.{exit_tidy}
use Rattle.core_mark_laws.proofs.TidyMarks.{every_mark}
use Rattle.core_chapter.specs.Closing.{CanDo, CanPhase, after_loss, done_in, done_mark, done_marks, done_of, left_by, loss, phase_mark, phase_marks, phased_in, phased_of, told_in, told_of}
use Rattle.core_chapter.specs.Numbered.{all_numbered, numbered}
use Rattle.core_chapter.specs.Standing.{Stands, in_force}
use Rattle.core_chapter.proofs.Standing.{is_stood, legal_more, one_more, opens, stood}

-- a call that takes an operation up changes nothing in a vacant cell

answered_stays : (boots : ℕ) (c : Call) (k : OpKind) (answers : List Answer) (bad : Option Answer) → takes_up c ≡ Some k → (answered_step (state.Vacant boots) c answers bad).state ≡ state.Vacant boots
answered_stays boots (call.Define def) k answers None e = cc
answered_stays boots c k answers (Some bad) e = refl
answered_stays boots other k answers None e = refl

tested_stays : (boots : ℕ) (c : Call) (k : OpKind) (answers : List Answer) (r : Option Refusal) → takes_up c ≡ Some k → (tested_step (state.Vacant boots) c answers r).state ≡ state.Vacant boots
tested_stays boots c k answers None e = answered_stays boots c k answers (first_bad answers) e
tested_stays boots c k answers (Some r) e = refl

ended_stays : (s : State) (c : Call) (boot : Option ℕ) → (ended_step s c boot).state ≡ s
ended_stays s call.Destroy boot = refl
ended_stays s c None = refl
ended_stays s c (Some boot) = refl

seq_stays : (boots : ℕ) (c : Call) (k : OpKind) (boot : Option ℕ) (answers : List Answer) (ended : Bool) → takes_up c ≡ Some k
    → (if ended then ended_step (state.Vacant boots) c boot else tested_step (state.Vacant boots) c answers (refusal_of (state.Vacant boots) boot c)).state ≡ state.Vacant boots
seq_stays boots c k boot answers true e = ended_stays (state.Vacant boots) c boot
seq_stays boots c k boot answers false e = tested_stays boots c k answers (refusal_of (state.Vacant boots) boot c) e

by_kind : (s : State) (c : Call) (boot : Option ℕ) (answers : List Answer) (wanted : Option OpKind) (held : Option HeldOperation) → takes_up c ≡ wanted
    → (is_vacant s && rests_for_another wanted held) ≡ true → (seq s c boot answers).state ≡ s
by_kind (state.Held d) c boot answers wanted held e h = cc
by_kind (state.Vacant boots) c boot answers None held e h = cc
by_kind (state.Vacant boots) c boot answers (Some k) held e h = seq_stays boots c k boot answers (meets_ended (state.Vacant boots) c boot) e

pub vacant_stays : (s : State) (c : Call) (boot : Option ℕ) (answers : List Answer) (held : Option HeldOperation)
    → (is_vacant s && rests_for_another (takes_up c) held) ≡ true → (seq s c boot answers).state ≡ s
vacant_stays s c boot answers held h = by_kind s c boot answers (takes_up c) held refl h

-- a boot that is lost is live still

lost_if : (b l : Bool) (boot was : ℕ) → (if b && l then Some boot else None) ≡ Some was → (boot ≡ was) × (l ≡ true)
lost_if true true boot was e = (cc, refl)
lost_if true false boot was e = cc
lost_if false l boot was e = cc

pub is_lost_live : (s : State) (boot : Option ℕ) (answers : List Answer) (lost : ℕ) → lost_boot s boot answers ≡ Some lost → is_live s lost ≡ true
is_lost_live s None answers lost e = cc
is_lost_live s (Some boot) answers lost e =
    let h = lost_if (list_any is_lost_answer answers) (is_live s boot) boot lost e in
    ap (λ (n : ℕ). is_live s n) (sym h.0) ∙ h.1

-- what is in force after a mark that closes a call, with what may be lost

abbrev closed : Base → List (Mark Stamp) → State → Option ℕ → Option OpenOperation → Standing
closed b marks n lost p = record { state = n; job = None; just_admitted = (in_force b marks).just_admitted; operation = p; lost = lost; clients = (in_force b marks).clients }

is_closed : (x : Standing) (n : State) (lost : Option ℕ) (p : Option OpenOperation) → x.state ≡ n → x.job ≡ None → x.operation ≡ p → x.lost ≡ lost
    → x ≡ record { state = n; job = None; just_admitted = x.just_admitted; operation = p; lost = lost; clients = x.clients }
is_closed x n lost p e f g h = rw (sym e, sym f, sym g, sym h) refl

-- a call that is closed, and the loss of its boot, where it was lost
pub closes_by : (b : Base) (marks left : List (Mark Stamp)) (m : Mark Stamp) (s n t : State) (j : Option OpenJob) (o p : Option OpenOperation) (lost : Option ℕ)
    → Stands b marks s j o → IsLawful (in_force b marks) (numbered m)
    → (after (stood b marks s j o) (numbered m)).state ≡ n → (after (stood b marks s j o) (numbered m)).job ≡ None
    → (after (stood b marks s j o) (numbered m)).operation ≡ p → (after (stood b marks s j o) (numbered m)).lost ≡ lost
    → ((boot : ℕ) → lost ≡ Some boot → is_live n boot ≡ true)
    → t ≡ after_loss n lost → left ≡ marks ++ m ∷ loss lost → Stands b left t None p
closes_by b marks left m s n t j o p None h lawful is_state is_job is_operation is_lost live is_t is_left =
    let more : in_force b left ≡ after (stood b marks s j o) (numbered m) =
    ap (λ (ms : List (Mark Stamp)). in_force b ms) is_left ∙ one_more b marks m ∙ ap (λ (x : Standing). after x (numbered m)) (is_stood b marks s j o h) in
    record {
      legal = subst (λ (ms : List (Mark Stamp)). IsLegal (at_base b) (all_numbered ms)) (sym is_left) (legal_more b marks m h.legal lawful);
      state = ap (λ (x : Standing). x.state) more ∙ is_state ∙ sym is_t;
      job = ap (λ (x : Standing). x.job) more ∙ is_job;
      operation = ap (λ (x : Standing). x.operation) more ∙ is_operation;
      lost = ap (λ (x : Standing). x.lost) more ∙ is_lost;
      tidy = subst (λ (x : State). IsTidy x) (is_state ∙ sym is_t) (every_mark (stood b marks s j o) (numbered m) h.tidy);
      guest =
          subst (λ (x : State). HasOwnGuest x p) (is_state ∙ sym is_t)
          (subst (λ (x : Option OpenOperation). HasOwnGuest (after (stood b marks s j o) (numbered m)).state x) is_operation (mark_keeps_guests (stood b marks s j o) (numbered m) h.guest));
    }
closes_by b marks left m s n t j o p (Some boot) h lawful is_state is_job is_operation is_lost live is_t is_left =
    let mid : List (Mark Stamp) = marks ++ m ∷ [] in
    let exit : Mark Stamp = mark.Exit boot reason.Lost (exit_transitions reason.Lost) in
    let is_mid : left ≡ mid ++ exit ∷ [] = is_left ∙ sym (append_assoc marks (m ∷ []) (exit ∷ [])) in
    let x : Standing = after (stood b marks s j o) (numbered m) in
    let was : in_force b mid ≡ x = one_more b marks m ∙ ap (λ (y : Standing). after y (numbered m)) (is_stood b marks s j o h) in
    let as_closed : in_force b mid ≡ record { state = n; job = None; just_admitted = x.just_admitted; operation = p; lost = Some boot; clients = x.clients } =
    was ∙ is_closed x n (Some boot) p is_state is_job is_operation is_lost in
    let lawful_exit : IsLawful (in_force b mid) (numbered exit) =
    subst (λ (y : Standing). IsLawful y (numbered exit)) (sym as_closed) (record { in_order = (live boot refl, refl); loss = (refl, refl) }) in
    let more : in_force b left ≡ after (record { state = n; job = None; just_admitted = x.just_admitted; operation = p; lost = Some boot; clients = x.clients }) (numbered exit) =
    ap (λ (ms : List (Mark Stamp)). in_force b ms) is_mid ∙ one_more b mid exit ∙ ap (λ (y : Standing). after y (numbered exit)) as_closed in
    record {
      legal = subst (λ (ms : List (Mark Stamp)). IsLegal (at_base b) (all_numbered ms)) (sym is_mid) (legal_more b mid exit (legal_more b marks m h.legal lawful) lawful_exit);
      state = ap (λ (y : Standing). y.state) more ∙ sym is_t;
      job = ap (λ (y : Standing). y.job) more;
      operation = ap (λ (y : Standing). y.operation) more;
      lost = ap (λ (y : Standing). y.lost) more;
      tidy =
          subst (λ (x : State). IsTidy x) (sym is_t)
          (exit_tidy n reason.Lost (subst (λ (x : State). IsTidy x) is_state (every_mark (stood b marks s j o) (numbered m) h.tidy)));
      guest =
          subst (λ (x : State). HasOwnGuest x p) (sym is_t)
          (mark_keeps_guests (record { state = n; job = None; just_admitted = x.just_admitted; operation = p; lost = Some boot; clients = x.clients }) (numbered exit)
          (subst (λ (y : State). HasOwnGuest y p) is_state (subst (λ (y : Option OpenOperation). HasOwnGuest x.state y) is_operation (mark_keeps_guests (stood b marks s j o) (numbered m) h.guest))));
    }

-- the open call is done
pub does : (b : Base) (marks left : List (Mark Stamp)) (s t : State) (j : Option OpenJob) (o : Option OpenOperation) (open_job : OpenJob) (by : Stamp) (asks : List Ask) (answers : List Answer)
    → Stands b marks s j o → IsLawful (in_force b marks) (numbered (done_mark s o open_job by asks answers))
    → t ≡ after_loss (seq s open_job.call open_job.boot answers).state (lost_boot (seq s open_job.call open_job.boot answers).state open_job.boot answers)
    → left ≡ marks ++ done_mark s o open_job by asks answers ∷ loss (lost_boot (seq s open_job.call open_job.boot answers).state open_job.boot answers)
    → Stands b left t None o
does b marks left s t j o open_job by asks answers h lawful is_t is_left =
    let n : State = (seq s open_job.call open_job.boot answers).state in
    closes_by b marks left (done_mark s o open_job by asks answers) s n t j o o (lost_boot n open_job.boot answers) h lawful refl refl refl refl
    (λ boot e. is_lost_live n open_job.boot answers boot e) is_t is_left

-- the due phase is done
pub phases : (b : Base) (marks left : List (Mark Stamp)) (s t : State) (j : Option OpenJob) (o : OpenOperation) (p : Option OpenOperation) (by : Stamp) (asks : List Ask) (answers : List Answer)
    → Stands b marks s j (Some o) → IsLawful (in_force b marks) (numbered (phase_mark s o by asks answers))
    → t ≡ after_loss (phase_of s o answers).state (lost_boot (phase_of s o answers).state o.boot answers)
    → p ≡ Some (record o { outcome = (phase_of s o answers).outcome })
    → left ≡ marks ++ phase_mark s o by asks answers ∷ loss (lost_boot (phase_of s o answers).state o.boot answers)
    → Stands b left t None p
phases b marks left s t j o p by asks answers h lawful is_t is_p is_left =
    let n : State = (phase_of s o answers).state in
    closes_by b marks left (phase_mark s o by asks answers) s n t j (Some o) p (lost_boot n o.boot answers) h lawful refl refl (sym is_p) refl
    (λ boot e. is_lost_live n o.boot answers boot e) is_t is_left

-- the same, by what the cell asks of who closes the call

is_done : (x : Standing) (s : State) (j : Option OpenJob) (o : Option OpenOperation) (open_job : OpenJob) (by : Stamp) (asks : List Ask) (answers : List Answer)
    → x.state ≡ s → x.operation ≡ o → x.job ≡ j → j ≡ Some open_job → done_in x by asks answers ≡ done_marks s o open_job by asks answers
is_done x s j o open_job by asks answers e f g is =
    ap (λ (y : State). done_of y x.operation x.job by asks answers) e
    ∙ ap (λ (y : Option OpenOperation). done_of s y x.job by asks answers) f
    ∙ ap (λ (y : Option OpenJob). done_of s o y by asks answers) (g ∙ is)

pub done_is : (b : Base) (marks : List (Mark Stamp)) (s : State) (j : Option OpenJob) (o : Option OpenOperation) (open_job : OpenJob) (by : Stamp) (asks : List Ask) (answers : List Answer)
    → Stands b marks s j o → j ≡ Some open_job → done_in (in_force b marks) by asks answers ≡ done_marks s o open_job by asks answers
done_is b marks s j o open_job by asks answers h is = is_done (in_force b marks) s j o open_job by asks answers h.state h.operation h.job is

is_told : (x : Standing) (s : State) (j : Option OpenJob) (o : Option OpenOperation) (open_job : OpenJob) (answers : List Answer)
    → x.state ≡ s → x.operation ≡ o → x.job ≡ j → j ≡ Some open_job → told_in x answers ≡ (left_by s o open_job.call open_job.boot answers).reply
is_told x s j o open_job answers e f g is =
    ap (λ (y : State). told_of y x.operation x.job answers) e
    ∙ ap (λ (y : Option OpenOperation). told_of s y x.job answers) f
    ∙ ap (λ (y : Option OpenJob). told_of s o y answers) (g ∙ is)

pub told_is : (b : Base) (marks : List (Mark Stamp)) (s : State) (j : Option OpenJob) (o : Option OpenOperation) (open_job : OpenJob) (answers : List Answer)
    → Stands b marks s j o → j ≡ Some open_job → told_in (in_force b marks) answers ≡ (left_by s o open_job.call open_job.boot answers).reply
told_is b marks s j o open_job answers h is = is_told (in_force b marks) s j o open_job answers h.state h.operation h.job is

can_do : (x : Standing) (s : State) (j : Option OpenJob) (o : Option OpenOperation) (open_job : OpenJob) (parts : CallParts) (by : Stamp) (asks : List Ask) (answers : List Answer)
    → x.state ≡ s → x.operation ≡ o → x.job ≡ j → j ≡ Some open_job → CanDo x x.job parts by asks answers
    → FitsCall parts s open_job.call open_job.boot × IsLawful x (numbered (done_mark s o open_job by asks answers))
can_do x s j o open_job parts by asks answers e f g is can =
    let here : CanDo x (Some open_job) parts by asks answers = subst (λ (y : Option OpenJob). CanDo x y parts by asks answers) (g ∙ is) can in (
      subst (λ (y : State). FitsCall parts y open_job.call open_job.boot) e here.0,
      subst (λ (y : Option OpenOperation). IsLawful x (numbered (done_mark s y open_job by asks answers))) f
          (subst (λ (y : State). IsLawful x (numbered (done_mark y x.operation open_job by asks answers))) e here.1),
    )

pub can_be_done : (b : Base) (marks : List (Mark Stamp)) (s : State) (j : Option OpenJob) (o : Option OpenOperation) (open_job : OpenJob) (parts : CallParts) (by : Stamp) (asks : List Ask) (answers : List Answer)
    → Stands b marks s j o → j ≡ Some open_job → CanDo (in_force b marks) (in_force b marks).job parts by asks answers
    → FitsCall parts s open_job.call open_job.boot × IsLawful (in_force b marks) (numbered (done_mark s o open_job by asks answers))
can_be_done b marks s j o open_job parts by asks answers h is can = can_do (in_force b marks) s j o open_job parts by asks answers h.state h.operation h.job is can

-- some call is open
pub none_cannot : (b : Base) (marks : List (Mark Stamp)) (s : State) (j : Option OpenJob) (o : Option OpenOperation) (parts : CallParts) (by : Stamp) (asks : List Ask) (answers : List Answer)
    → Stands b marks s j o → j ≡ None → CanDo (in_force b marks) (in_force b marks).job parts by asks answers → ⊥
none_cannot b marks s j o parts by asks answers h is can = subst (λ (y : Option OpenJob). CanDo (in_force b marks) y parts by asks answers) (h.job ∙ is) can

-- the same of a phase

is_phased : (x : Standing) (s : State) (p : Option OpenOperation) (o : OpenOperation) (by : Stamp) (asks : List Ask) (answers : List Answer)
    → x.state ≡ s → x.operation ≡ p → p ≡ Some o → phased_in x by asks answers ≡ phase_marks s o by asks answers
is_phased x s p o by asks answers e f is =
    ap (λ (y : State). phased_of y x.operation by asks answers) e ∙ ap (λ (y : Option OpenOperation). phased_of s y by asks answers) (f ∙ is)

pub phased_is : (b : Base) (marks : List (Mark Stamp)) (s : State) (j : Option OpenJob) (p : Option OpenOperation) (o : OpenOperation) (by : Stamp) (asks : List Ask) (answers : List Answer)
    → Stands b marks s j p → p ≡ Some o → phased_in (in_force b marks) by asks answers ≡ phase_marks s o by asks answers
phased_is b marks s j p o by asks answers h is = is_phased (in_force b marks) s p o by asks answers h.state h.operation is

can_phase : (x : Standing) (s : State) (p : Option OpenOperation) (o : OpenOperation) (parts : PhaseParts) (by : Stamp) (asks : List Ask) (answers : List Answer)
    → x.state ≡ s → x.operation ≡ p → p ≡ Some o → CanPhase x x.operation parts by asks answers
    → FitsPhase parts s o × IsLawful x (numbered (phase_mark s o by asks answers))
can_phase x s p o parts by asks answers e f is can =
    let here : CanPhase x (Some o) parts by asks answers = subst (λ (y : Option OpenOperation). CanPhase x y parts by asks answers) (f ∙ is) can in
    (subst (λ (y : State). FitsPhase parts y o) e here.0, subst (λ (y : State). IsLawful x (numbered (phase_mark y o by asks answers))) e here.1)

pub can_be_phased : (b : Base) (marks : List (Mark Stamp)) (s : State) (j : Option OpenJob) (p : Option OpenOperation) (o : OpenOperation) (parts : PhaseParts) (by : Stamp) (asks : List Ask) (answers : List Answer)
    → Stands b marks s j p → p ≡ Some o → CanPhase (in_force b marks) (in_force b marks).operation parts by asks answers
    → FitsPhase parts s o × IsLawful (in_force b marks) (numbered (phase_mark s o by asks answers))
can_be_phased b marks s j p o parts by asks answers h is can = can_phase (in_force b marks) s p o parts by asks answers h.state h.operation is can

-- some operation is under way
pub none_cannot_phase : (b : Base) (marks : List (Mark Stamp)) (s : State) (j : Option OpenJob) (p : Option OpenOperation) (parts : PhaseParts) (by : Stamp) (asks : List Ask) (answers : List Answer)
    → Stands b marks s j p → p ≡ None → CanPhase (in_force b marks) (in_force b marks).operation parts by asks answers → ⊥
none_cannot_phase b marks s j p parts by asks answers h is can = subst (λ (y : Option OpenOperation). CanPhase (in_force b marks) y parts by asks answers) (h.operation ∙ is) can

-- the parts of a phase read no number of the operation
pub shown_fits : (p : PhaseParts) (s : State) (o : OpenOperation) (n : ℕ) → FitsPhase p s (record o { number = n }) → FitsPhase p s o
shown_fits (phase_parts.Lifecycle p) s o n h = h
shown_fits (phase_parts.Save p) s o n h = h
shown_fits (phase_parts.Snapshot p) s o n h = h

-- a chapter that begins with what is there
pub turns_over : (b : Base) (left : List (Mark Stamp)) (s : State) (j : Option OpenJob) (o : Option OpenOperation) (rs : List Registration)
    → IsTidy s → HasOwnGuest s o → j ≡ None → b ≡ record { state = s; operation = o; registrations = rs } → left ≡ [] → Stands b left s j o
turns_over b left s j o rs tidy guest none is_base is_left =
    subst (λ (x : Option OpenJob). Stands b left s x o) (sym none)
    (subst (λ (ms : List (Mark Stamp)). Stands b ms s None o) (sym is_left)
    (subst (λ (x : Base). Stands x [] s None o) (sym is_base) (opens (record { state = s; operation = o; registrations = rs }) tidy guest)))
