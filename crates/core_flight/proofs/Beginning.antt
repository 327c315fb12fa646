-- A call that begins an operation, or takes one up, in a chapter's history.
use Rattle.std.specs.Prelude.{Ok, Err, OnOk}
use Rattle.std.proofs.Common.{◌≡◌, Result, ℕ, List, [], ◌∷◌, ◌++◌, Bool, false, true, not, ◌&&◌, is_some, Option, None, Some, if◌then◌else◌, append_assoc, refl, sym, ap, ◌∙◌, subst}
use Rattle.history_spec.specs.declared.stamp.Stamp.{Stamp}
use Rattle.domain_spec.specs.Types.{Call, Job, Live, OpKind, Reply, State, Who}
use Rattle.domain_spec.specs.Types.call
use Rattle.domain_spec.specs.Types.job
use Rattle.domain_spec.specs.Types.state
use Rattle.domain_spec.specs.declared.mark.Mark.{Mark}
use Rattle.domain_spec.specs.declared.mark.Mark.TheVariants as mark
use Rattle.domain_spec.specs.declared.open.OpenOperation.{OpenOperation}
use Rattle.domain_spec.specs.declared.planned.PlannedAsk.{PlannedAsk}
use Rattle.domain_spec.specs.declared.standing.Standing.{Standing}
use Rattle.domain_spec.specs.Asks.{asks_left, asks_made}
use Rattle.domain_spec.specs.Call.{begins, guest_plan, job_of, plan_of, takes_up}
use Rattle.domain_spec.specs.Fold.{after, after_take_up}
use Rattle.domain_spec.specs.Lawful.{EndedFirst, IsDoneAs, IsOpen, WerePlanned, planned_in}
use Rattle.domain_spec.specs.Legal.{IsLawful}
use Rattle.domain_spec.specs.Open.{BeginsAlone, IsOwnJob, operation_held}
use Rattle.domain_spec.specs.Sequential.{asked, goes_on_as_operation, makes_asks, meets_ended}
use Rattle.domain_spec.specs.TakeUp.{rests_for, step_at, takes_it_up}
use Rattle.core_rules.specs.declared.next.Next.TheVariants as next
use Rattle.core_rules.specs.Next.{next_of}
use Rattle.core_plan.specs.Along.{Asked}
use Rattle.core_plan.specs.AwayLaws.{made}
use Rattle.core_plan.specs.Going.{first_course, let_in}
use Rattle.core_plan.proofs.Finishing.{nothing_next, unsent_none}
use Rattle.core_plan.proofs.Planning.{still_planned}
use Rattle.core_plan.specs.Below.core_dispatch.Fits.{FitsCall}
use Rattle.core_plan.specs.Below.core_dispatch.declared.calls.CallParts.{CallParts}
use Rattle.core_chapter.specs.Closing.{CanDo, done_in, told_in}
use Rattle.core_chapter.specs.Standing.{HistoryWithRoom, in_force}
use Rattle.core_flight.specs.BeginTurn.{IsRefusedNow}
use Rattle.core_flight.specs.Ledger.{Chaptered, IsClosed, admitted, done_by, now_in, with_marks}
use Rattle.core_flight.specs.Operations.{Begins, TakesUp}
use Rattle.core_flight.specs.Turn.{IsReady, force_in, shown}
use Rattle.core_flight.specs.declared.away.Ready.{Ready}
use Rattle.core_flight.specs.declared.ledger.Begun.TheVariants as begun
use Rattle.core_flight.specs.declared.out.Out.{Out}
use Rattle.core_flight.proofs.Histories.{closes, force_admitted, in_more, in_shown, no_loss, shown_more}
use Rattle.core_flight.proofs.Ledgers.{after_mark, no_course, not_nested, seen}

-- a call that begins none and takes none up asks nothing

none_asked : (b : Bool) (plan : List PlannedAsk) → b ≡ false → next_of (asks_left (if b then plan else []) []) ≡ next.Finish
none_asked true plan e = cc
none_asked false plan e = refl

not_both : (b c : Bool) → b ≡ true → (b && c) ≡ false → c ≡ false
not_both true c e f = f
not_both false c e f = cc

and_false : (b : Bool) → (b && false) ≡ false
and_false true = refl
and_false false = refl

none_rests : (c : Call) (b : Bool) (o : Option OpenOperation) → is_some (begins c) ≡ true → (b && rests_for (takes_up c) (operation_held o)) ≡ false
none_rests (call.Confirm verdict) b o e = cc
none_rests (call.Finish go) b o e = cc
none_rests other b o e = and_false b

pub begins_refused : (s : Standing) (c : Call) (boot : Option ℕ) → is_some (begins c) ≡ true → goes_on_as_operation s.state c boot ≡ false → IsRefusedNow s c boot
begins_refused s c boot is goes = record {
  asks_none = none_asked (makes_asks s.state c boot) (plan_of s.state c) (not_both (is_some (begins c)) (makes_asks s.state c boot) is goes);
  begins_none = goes;
  takes_none = none_rests c (not (meets_ended s.state c boot)) s.operation is;
}

guest_none : (l : Option Live) (c : Call) → is_some (takes_up c) ≡ true → guest_plan l c ≡ []
guest_none None c e = refl
guest_none (Some l) (call.Confirm verdict) e = refl
guest_none (Some l) (call.Finish go) e = refl
guest_none (Some l) other e = cc

plan_none : (s : State) (c : Call) → is_some (takes_up c) ≡ true → plan_of s c ≡ []
plan_none (state.Held d) (call.Confirm verdict) e = guest_none d.live (call.Confirm verdict) e
plan_none (state.Held d) (call.Finish go) e = guest_none d.live (call.Finish go) e
plan_none (state.Vacant boots) (call.Confirm verdict) e = refl
plan_none (state.Vacant boots) (call.Finish go) e = refl
plan_none s other e = cc

nothing_asked : (b : Bool) (plan : List PlannedAsk) → plan ≡ [] → next_of (asks_left (if b then plan else []) []) ≡ next.Finish
nothing_asked true plan e = ap (λ (p : List PlannedAsk). next_of (asks_left p [])) e
nothing_asked false plan e = refl

begins_not : (c : Call) (makes : Bool) → is_some (takes_up c) ≡ true → (is_some (begins c) && makes) ≡ false
begins_not (call.Confirm verdict) makes e = refl
begins_not (call.Finish go) makes e = refl
begins_not other makes e = cc

pub takes_refused : (s : Standing) (c : Call) (boot : Option ℕ) → is_some (takes_up c) ≡ true → takes_it_up s c boot ≡ false → IsRefusedNow s c boot
takes_refused s c boot is takes = record {
  asks_none = nothing_asked (makes_asks s.state c boot) (plan_of s.state c) (plan_none s.state c is);
  begins_none = begins_not c (makes_asks s.state c boot) is;
  takes_none = takes;
}

-- it can be done at once

made_none : (b : Bool) (plan : List PlannedAsk) → [] ≡ (if b then asks_made plan [] else [])
made_none true plan = refl
made_none false plan = refl

planned_none : (s : State) (c : Call) (boot : Option ℕ) (meets : Bool) → WerePlanned (planned_in meets s None) (λ at. asked at c boot []) [] []
planned_none s c boot true = (refl, refl)
planned_none s c boot false = (made_none (makes_asks s c boot) (plan_of s c), refl)

ended_none : (meets : Bool) → EndedFirst meets []
ended_none true = tt
ended_none false = refl

refused_now : (s : Standing) (c : Call) (boot : Option ℕ) → IsRefusedNow s c boot → IsDoneAs s None c boot [] [] (step_at s c boot []).reply (step_at s c boot []).transitions
refused_now s c boot h = record {
  planned = planned_none s.state c boot (meets_ended s.state c boot);
  through = sym (still_planned s.state c boot []) ∙ nothing_next (asks_left (first_course s.state c boot).plan []) h.asks_none;
  no_operation = h.begins_none;
  not_taken_up = h.takes_none;
  ended_first = ended_none (meets_ended s.state c boot);
  unsent = unsent_none s.operation boot;
  reply = refl;
  told = refl;
}

can_do_refused :
    (s : Standing) (by : Stamp) (n : ℕ) (who : Who) (c : Call) (boot : Option ℕ) (parts : CallParts) → s.lost ≡ None → IsRefusedNow s c boot → FitsCall parts s.state c boot → by.number ≡ n
    → CanDo (after s (mark.Admit n who (job_of c) c boot)) (Some (let_in n who c boot)) parts by (made (first_course s.state c boot)) (first_course s.state c boot).answers
can_do_refused s by n who c boot parts lost h fits same =
    let there : Standing = after s (mark.Admit n who (job_of c) c boot) in
    let is : IsOpen (let_in n who c boot) by.number who c boot = record { numbered = same; caller = refl; same_call = refl; same_boot = refl; own_job = refl } in
    let refused : IsRefusedNow there c boot = record { asks_none = h.asks_none; begins_none = h.begins_none; takes_none = h.takes_none } in (
      fits,
      record {
        in_order = (is, refused_now there c boot refused);
        loss = no_loss there (done_by there (let_in n who c boot) by.number (first_course s.state c boot)) lost;
      },
    )

-- the chapter where a call was let in

pub record Admitted (old mid : HistoryWithRoom) (n : ℕ) (who : Who) (c : Call) (boot : Option ℕ) : Type 0 where
  pub marked : shown mid ≡ admitted (shown old) n who c boot
  pub there : force_in mid ≡ after (force_in old) (mark.Admit n who (job_of c) c boot)

pub is_admitted :
    (old mid : HistoryWithRoom) (n : ℕ) (again : Stamp) (who : Who) (wanted : Job) (d c : Call) (boot : Option ℕ) → again.number ≡ n → wanted ≡ job_of c → d ≡ c
    → mid.history ≡ record old.history { marks = old.history.marks ++ mark.Admit again who wanted d boot ∷ [] } → Admitted old mid n who c boot
is_admitted old mid n again who wanted d c boot numbered own same e = record {
  marked =
      shown_more old mid (mark.Admit again who wanted d boot ∷ []) e
      ∙ ap (λ (j : Job). with_marks (shown old) (mark.Admit again.number who j d boot ∷ [])) own
      ∙ ap (λ (x : Call). with_marks (shown old) (mark.Admit again.number who (job_of c) x boot ∷ [])) same
      ∙ ap (λ (k : ℕ). admitted (shown old) k who c boot) numbered;
  there = force_admitted old mid again who wanted d c boot e own same ∙ ap (λ (k : ℕ). after (force_in old) (mark.Admit k who (job_of c) c boot)) numbered;
}

pub refused_can :
    (old mid : HistoryWithRoom) (by : Stamp) (who : Who) (c : Call) (boot : Option ℕ) (r : Ready)
    → Admitted old mid by.number who c boot → (force_in old).lost ≡ None → IsRefusedNow (force_in old) c boot → IsReady (force_in old).state c boot r
    → CanDo (force_in mid) (force_in mid).job r.away.parts by (made r.away.course) r.away.course.answers
refused_can old mid by who c boot r h lost refused ready =
    subst (λ (s : Standing). CanDo s s.job r.away.parts by (made r.away.course) r.away.course.answers) (sym h.there)
    (subst (λ (a : Asked). CanDo (after (force_in old) (mark.Admit by.number who (job_of c) c boot)) (Some (let_in by.number who c boot)) r.away.parts by (made a) a.answers) (sym ready.course)
    (can_do_refused (force_in old) by by.number who c boot r.away.parts lost refused ready.parts refl))

pub refused_closed :
    (old mid new : HistoryWithRoom) (by : Stamp) (who : Who) (c : Call) (boot : Option ℕ) (r : Ready) (reply : Reply)
    → Admitted old mid by.number who c boot → (force_in old).lost ≡ None → IsRefusedNow (force_in old) c boot → IsReady (force_in old).state c boot r
    → new.history ≡ record mid.history { marks = mid.history.marks ++ done_in (force_in mid) by (made r.away.course) r.away.course.answers } → reply ≡ told_in (force_in mid) r.away.course.answers
    → IsClosed (admitted (shown old) by.number who c boot) by.number (first_course (force_in old).state c boot) (shown new) reply × ((force_in new).job ≡ None)
refused_closed old mid new by who c boot r reply h lost refused ready e told =
    closes mid new (admitted (shown old) by.number who c boot) r.away.parts by by.number r.away.course (first_course (force_in old).state c boot) reply
    (refused_can old mid by who c boot r h lost refused ready) e told h.marked refl ready.course

-- an operation is taken up

pub take_lawful :
    (old mid : HistoryWithRoom) (n : ℕ) (who : Who) (c d : Call) (boot : Option ℕ) → Admitted old mid n who c boot → (force_in old).lost ≡ None → takes_it_up (force_in old) c boot ≡ true → d ≡ c
    → IsLawful (force_in mid) (mark.TakeUp n who d)
take_lawful old mid n who c d boot h lost takes same =
    let s : Standing = force_in old in
    let there : Standing = after s (mark.Admit n who (job_of c) c boot) in
    subst (λ (x : Standing). IsLawful x (mark.TakeUp n who d)) (sym h.there)
    (subst (λ (x : Call). IsLawful there (mark.TakeUp n who x)) (sym same) (record {
      in_order = record {
        call = record { numbered = refl; caller = refl; same_call = refl; same_boot = refl; own_job = refl };
        right_before = refl;
        takes = takes;
      };
      loss = no_loss there (mark.TakeUp n who c) lost;
    }))

job_taken : (s : Standing) (o : Option OpenOperation) (b : Bool) (k : Option OpKind) (n : ℕ) (who : Who) (c : Call) → (b && rests_for k (operation_held o)) ≡ true → (after_take_up s o n who c).job ≡ None
job_taken s None true None n who c e = cc
job_taken s None true (Some k) n who c e = cc
job_taken s None false k n who c e = cc
job_taken s (Some o) b k n who c e = refl

pub taken_none :
    (old mid new : HistoryWithRoom) (by : Stamp) (who : Who) (c d : Call) (boot : Option ℕ) → Admitted old mid by.number who c boot → takes_it_up (force_in old) c boot ≡ true
    → new.history ≡ record mid.history { marks = mid.history.marks ++ mark.TakeUp by who d ∷ [] } → (force_in new).job ≡ None
taken_none old mid new by who c d boot h takes e =
    let there : Standing = after (force_in old) (mark.Admit by.number who (job_of c) c boot) in
    ap (λ (x : Standing). x.job) (after_mark mid new (mark.TakeUp by who d) e ∙ ap (λ (x : Standing). after x (mark.TakeUp by.number who d)) h.there)
    ∙ job_taken there (force_in old).operation (not (meets_ended (force_in old).state c boot)) (takes_up c) by.number who d takes

pub taken_shown :
    (old mid new : HistoryWithRoom) (by : Stamp) (who : Who) (c d : Call) (boot : Option ℕ) → Admitted old mid by.number who c boot → d ≡ c
    → new.history ≡ record mid.history { marks = mid.history.marks ++ mark.TakeUp by who d ∷ [] } → shown new ≡ with_marks (admitted (shown old) by.number who c boot) (mark.TakeUp by.number who c ∷ [])
taken_shown old mid new by who c d boot h same e =
    shown_more mid new (mark.TakeUp by who d ∷ []) e
    ∙ ap (λ (x : Chaptered). with_marks x (mark.TakeUp by.number who d ∷ [])) h.marked
    ∙ ap (λ (x : Call). with_marks (admitted (shown old) by.number who c boot) (mark.TakeUp by.number who x ∷ [])) same

-- an operation begins

alone_by : (k : Option OpKind) (o : OpenOperation) → is_some k ≡ true → BeginsAlone k (Some o) → Some o ≡ None
alone_by None o e h = cc
alone_by (Some k) o e h = h

alone : (o : Option OpenOperation) (n : ℕ) (wanted : Job) (c : Call) → (wanted ≡ job.Nested → ⊥) → is_some (begins c) ≡ true → IsOwnJob o n wanted c → o ≡ None
alone None n wanted c not is own = refl
alone (Some o) n job.Nested c not is own = absurd (not refl)
alone (Some o) n other c not is own = alone_by (begins c) o is own.2

first_true : (b c : Bool) → (b && c) ≡ true → b ≡ true
first_true true c e = refl
first_true false c e = cc

pub start_lawful :
    (s : Standing) (first n : ℕ) (who : Who) (wanted : Job) (c : Call) (boot : Option ℕ) → first ≡ n → wanted ≡ job_of c → s.lost ≡ None → IsLawful s (mark.Admit n who (job_of c) c boot) → goes_on_as_operation s.state c boot ≡ true
    → IsLawful (after s (mark.Admit first who wanted c boot)) (mark.Start n who c boot)
start_lawful s first n who wanted c boot numbered own lost lawful goes =
    let there : Standing = after s (mark.Admit first who wanted c boot) in
    record {
      in_order = record {
        call = record { numbered = sym numbered; caller = refl; same_call = refl; same_boot = refl; own_job = own };
        right_before = refl;
        alone = alone s.operation n (job_of c) c (not_nested c) (first_true (is_some (begins c)) (makes_asks s.state c boot) goes) lawful.in_order.own;
        begins = goes;
      };
      loss = no_loss there (mark.Start n who c boot) lost;
    }

pub admit_lawful : (s : Standing) (first n : ℕ) (who : Who) (wanted : Job) (c : Call) (boot : Option ℕ) → first ≡ n → wanted ≡ job_of c → IsLawful s (mark.Admit n who (job_of c) c boot) → IsLawful s (mark.Admit first who wanted c boot)
admit_lawful s first n who wanted c boot numbered own lawful =
    subst (λ (k : ℕ). IsLawful s (mark.Admit k who wanted c boot)) (sym numbered) (subst (λ (j : Job). IsLawful s (mark.Admit n who j c boot)) (sym own) lawful)

begun_shown :
    (old new : HistoryWithRoom) (first by : Stamp) (who : Who) (wanted : Job) (c : Call) (boot : Option ℕ) → first.number ≡ by.number → wanted ≡ job_of c
    → new.history ≡ record old.history { marks = old.history.marks ++ mark.Admit first who wanted c boot ∷ mark.Start by who c boot ∷ [] }
    → shown new ≡ with_marks (admitted (shown old) by.number who c boot) (mark.Start by.number who c boot ∷ [])
begun_shown old new first by who wanted c boot numbered own e =
    shown_more old new (mark.Admit first who wanted c boot ∷ mark.Start by who c boot ∷ []) e
    ∙ ap (λ (k : ℕ). with_marks (shown old) (mark.Admit k who wanted c boot ∷ mark.Start by.number who c boot ∷ [])) numbered
    ∙ ap (λ (j : Job). with_marks (shown old) (mark.Admit by.number who j c boot ∷ mark.Start by.number who c boot ∷ [])) own
    ∙ ap (λ (ms : List (Mark ℕ)). record (shown old) { marks = ms }) (sym (append_assoc (shown old).marks (mark.Admit by.number who (job_of c) c boot ∷ []) (mark.Start by.number who c boot ∷ [])))

pub started_shown : {A E : Type 0}
    (old new : HistoryWithRoom) (first by : Stamp) (who : Who) (wanted : Job) (c : Call) (boot : Option ℕ) (r : Result A E) → first.number ≡ by.number → wanted ≡ job_of c
    → OnOk r (new.history ≡ record old.history { marks = old.history.marks ++ mark.Admit first who wanted c boot ∷ mark.Start by who c boot ∷ [] })
    → OnOk r (shown new ≡ with_marks (admitted (shown old) by.number who c boot) (mark.Start by.number who c boot ∷ []))
started_shown old new first by who wanted c boot (Ok x) numbered own e = begun_shown old new first by who wanted c boot numbered own e
started_shown old new first by who wanted c boot (Err x) numbered own e = tt

pub started_none : {A E : Type 0}
    (old new : HistoryWithRoom) (first by : Stamp) (who : Who) (wanted : Job) (c : Call) (boot : Option ℕ) (r : Result A E)
    → OnOk r (new.history ≡ record old.history { marks = old.history.marks ++ mark.Admit first who wanted c boot ∷ mark.Start by who c boot ∷ [] })
    → OnOk r ((force_in new).job ≡ None)
started_none old new first by who wanted c boot (Ok x) e =
    ap (λ (h : _). (in_force h.base h.marks).job) e
    ∙ ap (λ (x : Standing). x.job) (in_more old.history.base old.history.marks (mark.Admit first who wanted c boot ∷ mark.Start by who c boot ∷ []))
started_none old new first by who wanted c boot (Err x) e = tt

pub admit_call_lawful : (s : Standing) (first n : ℕ) (who : Who) (wanted : Job) (d c : Call) (boot : Option ℕ) → first ≡ n → wanted ≡ job_of c → d ≡ c → IsLawful s (mark.Admit n who (job_of c) c boot) → IsLawful s (mark.Admit first who wanted d boot)
admit_call_lawful s first n who wanted d c boot numbered own same lawful =
    subst (λ (x : Call). IsLawful s (mark.Admit first who wanted x boot)) (sym same) (admit_lawful s first n who wanted c boot numbered own lawful)

-- what the ledger says

goes_shown : (c : HistoryWithRoom) (w : Option Out) (d : Call) (boot : Option ℕ) (b : Bool) → goes_on_as_operation (force_in c).state d boot ≡ b → goes_on_as_operation (now_in (seen c w)).state d boot ≡ b
goes_shown c w d boot b e = ap (λ (s : Standing). goes_on_as_operation s.state d boot) (in_shown c) ∙ e

takes_shown : (c : HistoryWithRoom) (w : Option Out) (d : Call) (boot : Option ℕ) (b : Bool) → takes_it_up (force_in c) d boot ≡ b → takes_it_up (now_in (seen c w)) d boot ≡ b
takes_shown c w d boot b e = ap (λ (s : Standing). takes_it_up s d boot) (in_shown c) ∙ e

closed_shown : (old new : HistoryWithRoom) (was : Option Out) (n : ℕ) (who : Who) (c : Call) (boot : Option ℕ) (r : Reply)
    → IsClosed (admitted (shown old) n who c boot) n (first_course (force_in old).state c boot) (shown new) r → IsClosed (admitted (shown old) n who c boot) n (first_course (now_in (seen old was)).state c boot) (shown new) r
closed_shown old new was n who c boot r h = subst (λ (s : Standing). IsClosed (admitted (shown old) n who c boot) n (first_course s.state c boot) (shown new) r) (sym (in_shown old)) h

pub begun_goes : (old new : HistoryWithRoom) (was kept : Option Out) (n : ℕ) (who : Who) (c : Call) (boot : Option ℕ) → kept ≡ None → goes_on_as_operation (force_in old).state c boot ≡ true
    → shown new ≡ with_marks (admitted (shown old) n who c boot) (mark.Start n who c boot ∷ []) → Begins n who c boot (seen old was) (seen new kept) begun.GoesOn
begun_goes old new was kept n who c boot none goes e = (goes_shown old was c boot true goes, e, no_course kept none)

pub begun_done : (old new : HistoryWithRoom) (was kept : Option Out) (n : ℕ) (who : Who) (c : Call) (boot : Option ℕ) (r : Reply) → kept ≡ None → goes_on_as_operation (force_in old).state c boot ≡ false
    → IsClosed (admitted (shown old) n who c boot) n (first_course (force_in old).state c boot) (shown new) r → Begins n who c boot (seen old was) (seen new kept) (begun.Done r)
begun_done old new was kept n who c boot r none goes h = (goes_shown old was c boot false goes, closed_shown old new was n who c boot r h, no_course kept none)

pub taken_goes : (old new : HistoryWithRoom) (was kept : Option Out) (n : ℕ) (who : Who) (c : Call) (boot : Option ℕ) → kept ≡ None → takes_it_up (force_in old) c boot ≡ true
    → shown new ≡ with_marks (admitted (shown old) n who c boot) (mark.TakeUp n who c ∷ []) → TakesUp n who c boot (seen old was) (seen new kept) begun.GoesOn
taken_goes old new was kept n who c boot none takes e = (takes_shown old was c boot true takes, e, no_course kept none)

pub taken_done : (old new : HistoryWithRoom) (was kept : Option Out) (n : ℕ) (who : Who) (c : Call) (boot : Option ℕ) (r : Reply) → kept ≡ None → takes_it_up (force_in old) c boot ≡ false
    → IsClosed (admitted (shown old) n who c boot) n (first_course (force_in old).state c boot) (shown new) r → TakesUp n who c boot (seen old was) (seen new kept) (begun.Done r)
taken_done old new was kept n who c boot r none takes h = (takes_shown old was c boot false takes, closed_shown old new was n who c boot r h, no_course kept none)
