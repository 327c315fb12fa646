-- What is in force after one mark more.
use Rattle.std.proofs.Common.{◌≡◌, ℕ, List, [], ◌∷◌, ◌++◌, Option, None, Some, refl, sym, ap, ◌∙◌, subst, if◌then◌else◌, is_some, option_map}
use Rattle.history_spec.specs.declared.stamp.Stamp.{Stamp}
use Rattle.domain_spec.specs.Types.{Call, EndReason, GuestEvent, Job, RefusalCode, Reply, State, Transition, Who}
use Rattle.domain_spec.specs.declared.mark.HeldJobs.{HeldJobs}
use Rattle.domain_spec.specs.declared.mark.Mark.{Mark}
use Rattle.domain_spec.specs.declared.mark.Mark.TheVariants as mark
use Rattle.domain_spec.specs.declared.open.OpenJob.{OpenJob}
use Rattle.domain_spec.specs.declared.open.OpenOperation.{OpenOperation}
use Rattle.domain_spec.specs.declared.standing.Base.{Base}
use Rattle.domain_spec.specs.declared.standing.Standing.{Standing}
use Rattle.domain_spec.specs.declared.step.Outcome.TheVariants as outcome
use Rattle.domain_spec.specs.Begin.{begin_state, due_phase, named_call, taken_up_state}
use Rattle.domain_spec.specs.Exit.{event_state, exit_state}
use Rattle.domain_spec.specs.Fold.{after, at_base, job_at_exit, standing, taken_up}
use Rattle.domain_spec.specs.Legal.{IsLawful, IsLegal}
use Rattle.domain_spec.specs.Phase.{without_operation}
use Rattle.domain_spec.specs.Reading.{live_boot}
use Rattle.domain_spec.proofs.LawProofs.{legal-append, standing-append}
use Rattle.core_mark_laws.specs.Guests.{HasOwnGuest}
use Rattle.core_mark_laws.specs.Tidy.{IsTidy}
use Rattle.core_mark_laws.proofs.OwnGuests.{mark_keeps_guests}
use Rattle.core_mark_laws.proofs.TidyMarks.{every_mark}
use Rattle.core_chapter.specs.Numbered.{all_numbered, numbered}
use Rattle.core_chapter.specs.Standing.{Stands, in_force}

numbered_more : (marks : List (Mark Stamp)) (m : Mark Stamp) → all_numbered (marks ++ m ∷ []) ≡ all_numbered marks ++ numbered m ∷ []
numbered_more [] m = refl
numbered_more (x ∷ marks) m = ap (λ (ms : List (Mark ℕ)). numbered x ∷ ms) (numbered_more marks m)

-- one mark more
pub one_more : (b : Base) (marks : List (Mark Stamp)) (m : Mark Stamp) → in_force b (marks ++ m ∷ []) ≡ after (in_force b marks) (numbered m)
unfolding in_force
one_more b marks m = ap (λ (ms : List (Mark ℕ)). standing (at_base b) ms) (numbered_more marks m) ∙ standing-append (at_base b) (all_numbered marks) (numbered m ∷ [])

-- a lawful mark more
pub legal_more : (b : Base) (marks : List (Mark Stamp)) (m : Mark Stamp) → IsLegal (at_base b) (all_numbered marks) → IsLawful (in_force b marks) (numbered m) → IsLegal (at_base b) (all_numbered (marks ++ m ∷ []))
unfolding in_force
legal_more b marks m legal lawful =
    subst (λ (ms : List (Mark ℕ)). IsLegal (at_base b) ms) (sym (numbered_more marks m)) (legal-append (at_base b) (all_numbered marks) (numbered m ∷ []) legal (lawful, tt))

-- what is in force, with the fields that the cell keeps
abbrev pub stood : Base → List (Mark Stamp) → State → Option OpenJob → Option OpenOperation → Standing
stood b marks s j o =
    record { state = s; job = j; just_admitted = (in_force b marks).just_admitted; operation = o; lost = None; clients = (in_force b marks).clients }

same : (x : Standing) (s : State) (j : Option OpenJob) (o : Option OpenOperation) → x.state ≡ s → x.job ≡ j → x.operation ≡ o → x.lost ≡ None
    → x ≡ record { state = s; job = j; just_admitted = x.just_admitted; operation = o; lost = None; clients = x.clients }
same x s j o e f g h = rw (sym e, sym f, sym g, sym h) refl

pub is_stood : (b : Base) (marks : List (Mark Stamp)) (s : State) (j : Option OpenJob) (o : Option OpenOperation) → Stands b marks s j o → in_force b marks ≡ stood b marks s j o
is_stood b marks s j o h = same (in_force b marks) s j o h.state h.job h.operation h.lost

-- a mark more, which is lawful by what the cell keeps
pub one_mark : (b : Base) (marks left : List (Mark Stamp)) (m : Mark Stamp) (s t : State) (j k : Option OpenJob) (o p : Option OpenOperation)
    → Stands b marks s j o → IsLawful (in_force b marks) (numbered m)
    → (after (stood b marks s j o) (numbered m)).state ≡ t → (after (stood b marks s j o) (numbered m)).job ≡ k
    → (after (stood b marks s j o) (numbered m)).operation ≡ p → (after (stood b marks s j o) (numbered m)).lost ≡ None
    → left ≡ marks ++ m ∷ [] → Stands b left t k p
one_mark b marks left m s t j k o p h lawful is_state is_job is_operation is_lost is_left =
    let more : in_force b left ≡ after (stood b marks s j o) (numbered m) =
    ap (λ (ms : List (Mark Stamp)). in_force b ms) is_left ∙ one_more b marks m ∙ ap (λ (x : Standing). after x (numbered m)) (is_stood b marks s j o h) in
    record {
      legal = subst (λ (ms : List (Mark Stamp)). IsLegal (at_base b) (all_numbered ms)) (sym is_left) (legal_more b marks m h.legal lawful);
      state = ap (λ (x : Standing). x.state) more ∙ is_state;
      job = ap (λ (x : Standing). x.job) more ∙ is_job;
      operation = ap (λ (x : Standing). x.operation) more ∙ is_operation;
      lost = ap (λ (x : Standing). x.lost) more ∙ is_lost;
      tidy = subst (λ (x : State). IsTidy x) is_state (every_mark (stood b marks s j o) (numbered m) h.tidy);
      guest =
          subst (λ (x : State). HasOwnGuest x p) is_state
          (subst (λ (x : Option OpenOperation). HasOwnGuest (after (stood b marks s j o) (numbered m)).state x) is_operation (mark_keeps_guests (stood b marks s j o) (numbered m) h.guest));
    }

-- a boot's end more
pub exits : (b : Base) (marks left : List (Mark Stamp)) (s t : State) (j k : Option OpenJob) (o : Option OpenOperation) (boot : ℕ) (why : EndReason) (told : List Transition)
    → Stands b marks s j o → IsLawful (in_force b marks) (mark.Exit boot why told) → t ≡ exit_state s why → k ≡ job_at_exit s boot j
    → left ≡ marks ++ mark.Exit boot why told ∷ [] → Stands b left t k o
exits b marks left s t j k o boot why told h lawful is_state is_job is_left =
    one_mark b marks left (mark.Exit boot why told) s t j k o o h lawful (sym is_state) (sym is_job) refl refl is_left

-- a call that is let in
pub admits : (b : Base) (marks left : List (Mark Stamp)) (s : State) (j k : Option OpenJob) (o : Option OpenOperation) (by : Stamp) (who : Who) (wanted : Job) (c : Call) (boot : Option ℕ)
    → Stands b marks s j o → IsLawful (in_force b marks) (mark.Admit by.number who wanted c boot)
    → k ≡ Some (record { number = by.number; who = who; job = wanted; call = c; boot = boot; before = None })
    → left ≡ marks ++ mark.Admit by who wanted c boot ∷ [] → Stands b left s k o
admits b marks left s j k o by who wanted c boot h lawful is_job is_left =
    one_mark b marks left (mark.Admit by who wanted c boot) s s j k o o h lawful refl (sym is_job) refl refl is_left

-- a call that is turned away
pub refuses : (b : Base) (marks left : List (Mark Stamp)) (s : State) (j : Option OpenJob) (o : Option OpenOperation) (by : Stamp) (who : Who) (c : Call) (why : RefusalCode) (held : HeldJobs)
    → Stands b marks s j o → IsLawful (in_force b marks) (mark.Refused by.number who c why held)
    → left ≡ marks ++ mark.Refused by who c why held ∷ [] → Stands b left s j o
refuses b marks left s j o by who c why held h lawful is_left = one_mark b marks left (mark.Refused by who c why held) s s j j o o h lawful refl refl refl refl is_left

-- what a guest did by itself
pub follows : (b : Base) (marks left : List (Mark Stamp)) (s t : State) (j : Option OpenJob) (o : Option OpenOperation) (boot : ℕ) (e : GuestEvent) (told : List Transition)
    → Stands b marks s j o → IsLawful (in_force b marks) (mark.Event boot e told) → t ≡ event_state s e
    → left ≡ marks ++ mark.Event boot e told ∷ [] → Stands b left t j o
follows b marks left s t j o boot e told h lawful is_state is_left = one_mark b marks left (mark.Event boot e told) s t j j o o h lawful (sym is_state) refl refl refl is_left

-- an operation that begins
pub starts : (b : Base) (marks left : List (Mark Stamp)) (s t : State) (j k : Option OpenJob) (o p : Option OpenOperation) (by : Stamp) (who : Who) (c : Call) (boot : Option ℕ)
    → Stands b marks s j o → IsLawful (in_force b marks) (mark.Start by.number who c boot) → t ≡ begin_state s who c → k ≡ None
    → p ≡ Some (record { number = by.number; who = who; call = named_call s c; boot = live_boot t; outcome = outcome.On (due_phase t) })
    → left ≡ marks ++ mark.Start by who c boot ∷ [] → Stands b left t k p
starts b marks left s t j k o p by who c boot h lawful is_state is_job is_operation is_left =
    let as_begun : State → Option OpenOperation = λ x. Some (record { number = by.number; who = who; call = named_call s c; boot = live_boot x; outcome = outcome.On (due_phase x) }) in
    one_mark b marks left (mark.Start by who c boot) s t j k o p h lawful (sym is_state) (sym is_job) (ap as_begun (sym is_state) ∙ sym is_operation) refl is_left

-- an operation that ends
pub ends : (b : Base) (marks left : List (Mark Stamp)) (s t : State) (j : Option OpenJob) (o p : Option OpenOperation) (by : Stamp) (who : Who) (r : Reply)
    → Stands b marks s j o → IsLawful (in_force b marks) (mark.End by.number who r) → t ≡ without_operation s → p ≡ None
    → left ≡ marks ++ mark.End by who r ∷ [] → Stands b left t j p
ends b marks left s t j o p by who r h lawful is_state is_operation is_left =
    one_mark b marks left (mark.End by who r) s t j j o p h lawful (sym is_state) refl (sym is_operation) refl is_left

-- a client that registers
pub watches : (b : Base) (marks left : List (Mark Stamp)) (s : State) (j : Option OpenJob) (o : Option OpenOperation) (by : Stamp) (client : ℕ)
    → Stands b marks s j o → IsLawful (in_force b marks) (mark.Watch by.number client) → left ≡ marks ++ mark.Watch by client ∷ [] → Stands b left s j o
watches b marks left s j o by client h lawful is_left = one_mark b marks left (mark.Watch by client) s s j j o o h lawful refl refl refl refl is_left

-- a client that leaves
pub unwatches : (b : Base) (marks left : List (Mark Stamp)) (s : State) (j : Option OpenJob) (o : Option OpenOperation) (by : Stamp) (client : ℕ)
    → Stands b marks s j o → IsLawful (in_force b marks) (mark.Unwatch by.number client) → left ≡ marks ++ mark.Unwatch by client ∷ [] → Stands b left s j o
unwatches b marks left s j o by client h lawful is_left = one_mark b marks left (mark.Unwatch by client) s s j j o o h lawful refl refl refl refl is_left

-- a registration that is cut
pub cuts : (b : Base) (marks left : List (Mark Stamp)) (s : State) (j : Option OpenJob) (o : Option OpenOperation) (client total taken : ℕ)
    → Stands b marks s j o → IsLawful (in_force b marks) (mark.Cut client total taken) → left ≡ marks ++ mark.Cut client total taken ∷ [] → Stands b left s j o
cuts b marks left s j o client total taken h lawful is_left = one_mark b marks left (mark.Cut client total taken) s s j j o o h lawful refl refl refl refl is_left

-- the operation that is there, if one is, goes on for the call
pub takes_over : (b : Base) (marks left : List (Mark Stamp)) (s t : State) (j k : Option OpenJob) (o p : Option OpenOperation) (by : Stamp) (who : Who) (c : Call)
    → Stands b marks s j o → IsLawful (in_force b marks) (mark.TakeUp by.number who c)
    → t ≡ (if is_some o then taken_up_state s who c else s) → k ≡ (if is_some o then None else j) → p ≡ option_map (taken_up by.number who c) o
    → left ≡ marks ++ mark.TakeUp by who c ∷ [] → Stands b left t k p
takes_over b marks left s t j k None p by who c h lawful e f g is_left =
    one_mark b marks left (mark.TakeUp by who c) s t j k None p h lawful (sym e) (sym f) (sym g) refl is_left
takes_over b marks left s t j k (Some o) p by who c h lawful e f g is_left =
    one_mark b marks left (mark.TakeUp by who c) s t j k (Some o) p h lawful (sym e) (sym f) (sym g) refl is_left

-- a chapter without marks, in which no call is open
pub opens : (b : Base) → IsTidy b.state → HasOwnGuest b.state b.operation → Stands b [] b.state None b.operation
unfolding in_force
opens b tidy guest = record { legal = tt; state = refl; job = refl; operation = refl; lost = refl; tidy = tidy; guest = guest }
