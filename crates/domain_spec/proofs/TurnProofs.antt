-- Why every list of steps ends in a legal history.
use Rattle.std.proofs.Common.{◌≡◌, ℕ, ◌≤◌, inl, inr, List, [], ◌∷◌, Bool, true, false, is_some, Option, None, Some, refl, sym, subst, arith}
use Rattle.domain_spec.specs.Types.{Call, DomainDef, Job, OpKind, State, Who}
use Rattle.domain_spec.specs.Types.call
use Rattle.domain_spec.specs.Types.job
use Rattle.domain_spec.specs.declared.core_step.CoreStep.{CoreStep}
use Rattle.domain_spec.specs.declared.core_step.CoreStep.TheVariants as step
use Rattle.domain_spec.specs.declared.core_step.First.TheVariants as first
use Rattle.domain_spec.specs.declared.mark.HeldOperation.{HeldOperation}
use Rattle.domain_spec.specs.declared.mark.Mark.{Mark}
use Rattle.domain_spec.specs.declared.mark.Mark.TheVariants as mark
use Rattle.domain_spec.specs.declared.open.OpenJob.{OpenJob}
use Rattle.domain_spec.specs.declared.open.OpenOperation.{OpenOperation}
use Rattle.domain_spec.specs.declared.standing.Base.{Base}
use Rattle.domain_spec.specs.declared.standing.Standing.{Standing}
use Rattle.domain_spec.specs.declared.step.Outcome.{Outcome}
use Rattle.domain_spec.specs.declared.step.Outcome.TheVariants as outcome
use Rattle.domain_spec.specs.Call.{begins, job_of, takes_up}
use Rattle.domain_spec.specs.CanTake.{CanTake, IsNotOperationOf}
use Rattle.domain_spec.specs.Carried.{WasLive, WasLiveOrBefore}
use Rattle.domain_spec.specs.Cell.{Cell, standing_of}
use Rattle.domain_spec.specs.Chapter.{first_base}
use Rattle.domain_spec.specs.Fold.{after, at_base, standing}
use Rattle.domain_spec.specs.JobTable.{IsOwnPhase, MayBegin}
use Rattle.domain_spec.specs.Lawful.{IsAdmitted}
use Rattle.domain_spec.specs.Laws.{IsCounted}
use Rattle.domain_spec.specs.Legal.{IsInOrder, IsLegal}
use Rattle.domain_spec.specs.Open.{BeginsAlone, IsCarried, IsKnownBoot, IsOwnJob, MayAdmit, OperationGoesOn, is_rest, job_held, operation_held}
use Rattle.domain_spec.specs.Reading.{boots_of, live_boot}
use Rattle.domain_spec.specs.Steps.{IsPhaseLetIn, LetsIn}
use Rattle.domain_spec.specs.Turns.{BeginsBy, EveryRunIsLegal, GoOn, GoesOnBy, IsOpened, IsTurn, Leads, MayLeave, Runs, Turn, base_after, marks_after}
use Rattle.domain_spec.proofs.EndsOnce.{mark_counted}
use Rattle.domain_spec.proofs.LawProofs.{legal-append}
use Rattle.domain_spec.proofs.PhaseBoots.{boots_rise}

-- the boot that a Destroy kept was numbered

known_rises : (a b : ℕ) (boot : Option ℕ) → a ≤ b → IsKnownBoot a boot → IsKnownBoot b boot
known_rises a b None le known = tt
known_rises a b (Some boot) le known = let bound = known.1 in (known.0, omega arith)

was_known : (s : Standing) (marks : List (Mark ℕ)) (boot : Option ℕ) → IsCounted s → WasLive s marks boot → IsKnownBoot (boots_of (standing s marks).state) boot
was_known s [] boot counted e = subst (λ (o : Option ℕ). IsKnownBoot (boots_of s.state) o) e counted
was_known s (m ∷ marks) boot counted (inl e) =
    known_rises (boots_of s.state) (boots_of (standing s (m ∷ marks)).state) boot (boots_rise s (m ∷ marks)) (subst (λ (o : Option ℕ). IsKnownBoot (boots_of s.state) o) e counted)
was_known s (m ∷ marks) boot counted (inr later) = was_known (after s m) marks boot (mark_counted s m counted) later

kept_known : (b : Base) (marks : List (Mark ℕ)) (boot : Option ℕ) → IsCounted (at_base b) → WasLiveOrBefore b marks boot → IsKnownBoot (boots_of (standing (at_base b) marks).state) boot
kept_known b marks boot counted (inl was) = was_known (at_base b) marks boot counted was
kept_known b marks boot counted (inr known) = known_rises (boots_of b.state) (boots_of (standing (at_base b) marks).state) boot (boots_rise (at_base b) marks) known

counted_at : (s : Standing) (marks : List (Mark ℕ)) → IsCounted s → IsCounted (standing s marks)
counted_at s [] counted = counted
counted_at s (m ∷ marks) counted = counted_at (after s m) marks (mark_counted s m counted)

carried_now : (s : State) (d : Call) (boot : Option ℕ) → IsKnownBoot (boots_of s) (live_boot s) → boot ≡ live_boot s → IsCarried s d boot
carried_now s call.Destroy boot counted e = subst (λ (o : Option ℕ). IsKnownBoot (boots_of s) o) (sym e) counted
carried_now s other boot counted e = e

-- a call's own job

not_nested : (d : Call) → job_of d ≡ job.Nested → ⊥
not_nested call.Suspend is = cc
not_nested other is = cc

own_by : (o : Option OpenOperation) (n : ℕ) (wanted : Job) (d : Call) → wanted ≡ job_of d → IsNotOperationOf o n → BeginsAlone (begins d) o → IsOwnJob o n wanted d
own_by None n job.Nested d is free alone = absurd (not_nested d (sym is))
own_by None n other d is free alone = is
own_by (Some o) n job.Nested d is free alone = absurd (not_nested d (sym is))
own_by (Some o) n other d is free alone = (is, free, alone)

none_alone : (k : Option OpKind) (o : Option OpenOperation) → k ≡ None → BeginsAlone k o
none_alone None o e = tt
none_alone (Some k) o e = cc

begin_alone : (k : Option OpKind) (j : Option OpenJob) (o : Option OpenOperation) → MayBegin (job_held j) (operation_held o) → BeginsAlone k o
begin_alone None j o may = tt
begin_alone (Some k) None None may = refl
begin_alone (Some k) None (Some o) may = absurd may
begin_alone (Some k) (Some j) None may = absurd may
begin_alone (Some k) (Some j) (Some o) may = absurd may

begin_may : (j : Option OpenJob) (o : Option OpenOperation) (taking : Option OpKind) (wanted : Job) (who : Who) → (wanted ≡ job.Nested → ⊥) → MayBegin (job_held j) (operation_held o) → MayAdmit (job_held j) (operation_held o) taking wanted who
begin_may None None (Some k) job.MigrationOp who own may = tt
begin_may None None taking job.Nested who own may = absurd (own refl)
begin_may None None taking other who own may = tt
begin_may None (Some o) taking wanted who own may = absurd may
begin_may (Some j) None taking wanted who own may = absurd may
begin_may (Some j) (Some o) taking wanted who own may = absurd may

takes_begins_none : (d : Call) → is_some (takes_up d) ≡ true → begins d ≡ None
takes_begins_none (call.Confirm verdict) is = refl
takes_begins_none (call.Finish go) is = refl
takes_begins_none other is = cc

awake_by : (o : Outcome) → OperationGoesOn o → is_rest o ≡ false
awake_by (outcome.On p) due = refl
awake_by (outcome.Over r) due = absurd due
awake_by (outcome.Rest r) due = absurd due

may_nested : (op : HeldOperation) (taking : Option OpKind) (who : Who) → IsOwnPhase op who → MayAdmit None (Some op) taking job.Nested who
may_nested op None who own = own
may_nested op (Some k) who own = own

-- what a step lets in may be let in

call_admitted :
    (s : Standing) (n : ℕ) (who : Who) (d : Call) (boot : Option ℕ)
    → MayAdmit (job_held s.job) (operation_held s.operation) (takes_up d) (job_of d) who → IsNotOperationOf s.operation n → BeginsAlone (begins d) s.operation → IsCarried s.state d boot
    → IsAdmitted s n who (job_of d) d boot
call_admitted s n who d boot may free alone carried = record { may = may; own = own_by s.operation n (job_of d) d refl free alone; carried = carried }

same_admit :
    (s : Standing) (n number : ℕ) (who w : Who) (d e : Call) (wanted : Job) (boot : Option ℕ)
    → number ≡ n → w ≡ who → e ≡ d → wanted ≡ job_of d → IsAdmitted s n who (job_of d) d boot → IsAdmitted s number w wanted e boot
same_admit s n number who w d e wanted boot numbered caller same own h =
    subst (λ (x : ℕ). IsAdmitted s x w wanted e boot) (sym numbered)
    (subst (λ (x : Who). IsAdmitted s n x wanted e boot) (sym caller)
    (subst (λ (x : Job). IsAdmitted s n who x e boot) (sym own)
    (subst (λ (x : Call). IsAdmitted s n who (job_of d) x boot) (sym same) h)))

phase_admitted :
    (s : Standing) (o : Option OpenOperation) (number : ℕ) (w : Who) (wanted : Job) (e : Call) (boot : Option ℕ)
    → s.operation ≡ o → IsCounted s → IsPhaseLetIn s o number w wanted e boot → IsAdmitted s number w wanted e boot
phase_admitted s None number w wanted e boot is counted h = absurd h
phase_admitted s (Some o) number w wanted e boot is counted h =
    subst (λ (x : Job). IsAdmitted s number w x e boot) (sym h.nested) (record {
      may =
          subst (λ (j : Option OpenJob). MayAdmit (job_held j) (operation_held s.operation) (takes_up e) job.Nested w) (sym h.free)
          (subst (λ (x : Option OpenOperation). MayAdmit None (operation_held x) (takes_up e) job.Nested w) (sym is)
          (may_nested _ (takes_up e) w (record { caller = h.caller; awake = awake_by o.outcome h.due })));
      own = subst (λ (x : Option OpenOperation). IsOwnJob x number job.Nested e) (sym is) (h.numbered, h.same_call, h.due);
      carried = carried_now s.state e boot counted h.carried;
    })

admits : (c : Cell) (t : CoreStep ℕ) (number : ℕ) (w : Who) (wanted : Job) (e : Call) (boot : Option ℕ) → CanTake c t → IsCounted (at_base c.base) → LetsIn c t number w wanted e boot → IsAdmitted (standing_of c) number w wanted e boot
admits c (step.Look n who d first.Now) number w wanted e boot can counted h =
    let s = standing_of c in
    same_admit s n number who w d e wanted boot h.0.numbered h.0.caller h.0.same_call h.0.own_job
    (call_admitted s n who d boot h.2 can.none_open.no_operation (none_alone (begins d) s.operation can.begins_none) (carried_now s.state d boot (counted_at (at_base c.base) c.marks counted) h.1))
admits c (step.Look n who d (first.Boot kept)) number w wanted e boot can counted h =
    let s = standing_of c in
    same_admit s n number who w d e wanted boot h.0.numbered h.0.caller h.0.same_call h.0.own_job
    (call_admitted s n who d boot h.2 can.none_open.no_operation (none_alone (begins d) s.operation can.begins_none)
    (subst (λ (x : Call). IsCarried s.state x boot) (sym can.first_look.0)
    (subst (λ (x : Option ℕ). IsKnownBoot (boots_of s.state) x) (sym h.1.0) (kept_known c.base c.marks kept counted h.1.1))))
admits c (step.BeginOp n who d) number w wanted e boot can counted h =
    let s = standing_of c in
    same_admit s n number who w d e wanted boot h.0.numbered h.0.caller h.0.same_call h.0.own_job
    (call_admitted s n who d boot (begin_may s.job s.operation (takes_up d) (job_of d) who (not_nested d) h.2) can.0.no_operation (begin_alone (begins d) s.job s.operation h.2) (carried_now s.state d boot (counted_at (at_base c.base) c.marks counted) h.1))
admits c (step.TakeUp n who d) number w wanted e boot can counted h =
    let s = standing_of c in
    same_admit s n number who w d e wanted boot h.0.numbered h.0.caller h.0.same_call h.0.own_job
    (call_admitted s n who d boot h.2 can.0.no_operation (none_alone (begins d) s.operation (takes_begins_none d can.1)) (carried_now s.state d boot (counted_at (at_base c.base) c.marks counted) h.1))
admits c (step.Phase n who) number w wanted e boot can counted h =
    phase_admitted (standing_of c) (standing_of c).operation number w wanted e boot refl (counted_at (at_base c.base) c.marks counted) h
admits c other number w wanted e boot can counted h = absurd h

-- the marks of a turn

goes_on_lawful : (c : Cell) (t : CoreStep ℕ) (s : Standing) (m : Mark ℕ) → GoesOnBy c t s m → IsInOrder s m
goes_on_lawful c t s (mark.Done number who d boot asks answers r events) h = h.2
goes_on_lawful c t s (mark.Phase number who p asks answers next events) h = h.2
goes_on_lawful c t s (mark.Start number who d boot) h = h.1
goes_on_lawful c t s (mark.TakeUp number who d) h = h.1
goes_on_lawful c t s (mark.Exit boot why events) h = (h.live, h.told)
goes_on_lawful c t s (mark.Event boot e events) h = (h.1, h.2, h.3)
goes_on_lawful c t s (mark.Cut client total taken) h = h
goes_on_lawful c t s other h = absurd h

go_on_legal : (c : Cell) (t : CoreStep ℕ) (s : Standing) (marks : List (Mark ℕ)) → GoOn c t s marks → IsLegal s marks
go_on_legal c t s [] h = tt
go_on_legal c t s (m ∷ marks) h = (record { in_order = goes_on_lawful c t s m h.0; loss = h.1 }, go_on_legal c t (after s m) marks h.2)

begins_lawful : (c : Cell) (t : CoreStep ℕ) (m : Mark ℕ) → CanTake c t → IsCounted (at_base c.base) → BeginsBy c t (standing_of c) m → IsInOrder (standing_of c) m
begins_lawful c t (mark.Admit number w wanted e boot) can counted h = admits c t number w wanted e boot can counted h
begins_lawful c t (mark.Refused number w e why held) can counted h = h.1
begins_lawful c (step.EndOp n who) (mark.End number w r) can counted h = h.2
begins_lawful c t (mark.End number w r) can counted h = absurd h
begins_lawful c (step.Watch n) (mark.Watch number client) can counted h = h.1
begins_lawful c t (mark.Watch number client) can counted h = absurd h
begins_lawful c (step.Unwatch n k) (mark.Unwatch number client) can counted h = h.2
begins_lawful c t (mark.Unwatch number client) can counted h = absurd h
begins_lawful c t m can counted h = goes_on_lawful c t (standing_of c) m h

pub turn_legal : (c : Cell) (t : CoreStep ℕ) (marks : List (Mark ℕ)) → CanTake c t → IsCounted (at_base c.base) → MayLeave c t marks → IsLegal (standing_of c) marks
turn_legal c t [] can counted h = tt
turn_legal c t (m ∷ marks) can counted h =
    (record { in_order = begins_lawful c t m can counted h.0; loss = h.1 }, go_on_legal c t (after (standing_of c) m) marks h.2)

-- a list of steps

-- the boots are counted, and the marks are legal
abbrev pub Holds : Base → List (Mark ℕ) → Type 0
Holds b marks = IsCounted (at_base b) × IsLegal (at_base b) marks

pub holds_after : (c : Cell) (t : CoreStep ℕ) (marks : List (Mark ℕ)) → IsTurn c t marks → Holds c.base c.marks → Holds (base_after c t) (marks_after c t marks)
holds_after c (step.Rotate n who) marks turn h = (counted_at (at_base c.base) c.marks h.0, tt)
holds_after c other marks turn h = (h.0, legal-append (at_base c.base) c.marks marks h.1 (turn_legal c other marks turn.can h.0 turn.left))

pub holds_led : (c d : Cell) (t : CoreStep ℕ) (marks : List (Mark ℕ)) → Leads c t marks d → Holds (base_after c t) (marks_after c t marks) → Holds d.base d.marks
holds_led c d t marks led h =
    subst (λ (b : Base). Holds b d.marks) (sym led.base) (subst (λ (ms : List (Mark ℕ)). Holds (base_after c t) ms) (sym led.marks) h)

holds_run : (c d : Cell) (turns : List Turn) → Runs c turns d → Holds c.base c.marks → Holds d.base d.marks
holds_run c d [] e h = subst (λ (x : Cell). Holds x.base x.marks) e h
holds_run c d (t ∷ turns) run h = holds_run run.0 d turns run.3 (holds_led c run.0 t.of_step t.marks run.2 (holds_after c t.of_step t.marks run.1 h))

counted_first : (stored : Option DomainDef) (autostart : Bool) → IsCounted (at_base (first_base stored autostart))
counted_first None autostart = tt
counted_first (Some def) autostart = tt

pub holds_opened : (c : Cell) (stored : Option DomainDef) (autostart : Bool) → IsOpened c stored autostart → Holds c.base c.marks
holds_opened c stored autostart opened =
    subst (λ (b : Base). Holds b c.marks) (sym opened.base) (subst (λ (ms : List (Mark ℕ)). Holds (first_base stored autostart) ms) (sym opened.marks) (counted_first stored autostart, tt))

pub every_run : EveryRunIsLegal
every_run c d stored autostart turns opened runs = (holds_run c d turns runs (holds_opened c stored autostart opened)).1
