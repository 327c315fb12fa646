-- A chapter's history as the ledger shows it, with the numbers of passes, and a call in it.
use Rattle.std.proofs.Common.{◌≡◌, ℕ, List, [], ◌∷◌, ◌++◌, false, true, Option, None, Some, refl, sym, ap, ◌∙◌, subst}
use Rattle.history_spec.specs.declared.stamp.Stamp.{Stamp}
use Rattle.domain_spec.specs.Types.{Answer, Ask, Call, Job, Reply, Who}
use Rattle.domain_spec.specs.declared.mark.Mark.{Mark}
use Rattle.domain_spec.specs.declared.mark.Mark.TheVariants as mark
use Rattle.domain_spec.specs.declared.open.OpenJob.{OpenJob}
use Rattle.domain_spec.specs.declared.standing.Base.{Base}
use Rattle.domain_spec.specs.declared.standing.Standing.{Standing}
use Rattle.domain_spec.specs.Call.{begins, job_of, takes_up}
use Rattle.domain_spec.specs.Fold.{after, at_base, job_at_exit, lost_boot, standing}
use Rattle.domain_spec.specs.TakeUp.{step_at}
use Rattle.domain_spec.specs.Lawful.{IsDone, IsOpen}
use Rattle.domain_spec.specs.Legal.{IsLawful, MarksLoss}
use Rattle.domain_spec.specs.Sequential.{seq}
use Rattle.core_rules.specs.declared.next.Next.{Next}
use Rattle.core_rules.specs.declared.next.Next.TheVariants as next
use Rattle.core_rules.specs.Next.{is_ask}
use Rattle.core_plan.specs.Along.{Asked, answered}
use Rattle.core_plan.specs.Starving.{AreAsks, next_in, starved}
use Rattle.core_plan.specs.AwayLaws.{made}
use Rattle.core_plan.specs.Away.{IsAway}
use Rattle.core_plan.specs.Going.{IsAnsweredLive, IsLetIn, first_course, let_in}
use Rattle.core_plan.proofs.Finishing.{is_done_ended}
use Rattle.core_plan.proofs.Going.{first_is_away, first_is_done, is_done_then, stays_away}
use Rattle.core_plan.specs.Below.core_dispatch.Fits.{FitsCall}
use Rattle.core_plan.specs.Below.core_dispatch.declared.calls.CallParts.{CallParts}
use Rattle.core_chapter.specs.Closing as chapter
use Rattle.core_chapter.specs.Closing.{CanDo, done_in, done_of, told_in, told_of}
use Rattle.core_chapter.specs.Numbered.{all_numbered, numbered}
use Rattle.core_chapter.specs.Standing.{HistoryWithRoom, in_force}
use Rattle.core_chapter.proofs.Standing.{one_more}
use Rattle.domain_spec.proofs.LawProofs.{standing-append}
use Rattle.core_flight.specs.Away.{HasRooms, IsOut}
use Rattle.core_flight.specs.Ledger.{Chaptered, IsClosed, IsDoneLawful, IsTold, closing, done_by, loss, standing_in, with_marks}
use Rattle.core_flight.specs.Turn.{CanGoOn, LeadsTo, MayAnswerCall, StaysAway, TurnsTo, force_in, is_over, shown}
use Rattle.core_flight.specs.declared.turns.Turn.{Turn}
use Rattle.core_flight.specs.declared.turns.Turn.TheVariants as turn
use Rattle.core_flight.specs.declared.away.Away.{Away}
use Rattle.core_flight.specs.declared.out.Out.TheVariants as gone

-- the marks with their numbers

pub numbered_append : (xs ys : List (Mark Stamp)) → all_numbered (xs ++ ys) ≡ all_numbered xs ++ all_numbered ys
numbered_append [] ys = refl
numbered_append (x ∷ xs) ys = ap (λ (ms : List (Mark ℕ)). numbered x ∷ ms) (numbered_append xs ys)

pub in_shown : (c : HistoryWithRoom) → standing_in (shown c) ≡ force_in c
unfolding standing_in in_force
in_shown c = refl

-- a mark more
pub shown_more : (old new : HistoryWithRoom) (more : List (Mark Stamp)) → new.history ≡ record old.history { marks = old.history.marks ++ more } → shown new ≡ with_marks (shown old) (all_numbered more)
shown_more old new more e =
    ap (λ (h : _). record { chapter = h.chapter; base = h.base; marks = all_numbered h.marks }) e
    ∙ ap (λ (ms : List (Mark ℕ)). record { chapter = old.history.chapter; base = old.history.base; marks = ms }) (numbered_append old.history.marks more)

-- what is in force where a call was let in
pub force_admitted :
    (old new : HistoryWithRoom) (by : Stamp) (who : Who) (wanted : Job) (d c : Call) (boot : Option ℕ)
    → new.history ≡ record old.history { marks = old.history.marks ++ mark.Admit by who wanted d boot ∷ [] } → wanted ≡ job_of c → d ≡ c
    → force_in new ≡ after (force_in old) (mark.Admit by.number who (job_of c) c boot)
force_admitted old new by who wanted d c boot e f g =
    ap (λ (h : _). in_force h.base h.marks) e
    ∙ one_more old.history.base old.history.marks (mark.Admit by who wanted d boot)
    ∙ ap (λ (j : Job). after (force_in old) (mark.Admit by.number who j d boot)) f
    ∙ ap (λ (x : Call). after (force_in old) (mark.Admit by.number who (job_of c) x boot)) g

-- a call is done

loss_is : (o : Option ℕ) → all_numbered (chapter.loss o) ≡ loss o
loss_is None = refl
loss_is (Some boot) = refl

pub done_is : (s : Standing) (j : Option OpenJob) (by : Stamp) (a : Asked) → all_numbered (done_of s.state s.operation j by (made a) a.answers) ≡ closing s j by.number a
done_is s None by a = refl
done_is s (Some j) by a = ap (λ (ms : List (Mark ℕ)). done_by s j by.number a ∷ ms) (loss_is (lost_boot (seq s.state j.call j.boot a.answers).state j.boot a.answers))

pub done_lawful : (s : Standing) (j : Option OpenJob) (parts : CallParts) (by : Stamp) (a : Asked) → CanDo s j parts by (made a) a.answers → IsDoneLawful s j by.number a
done_lawful s None parts by a h = h
done_lawful s (Some j) parts by a h = h.1

pub done_told : (s : Standing) (j : Option OpenJob) (parts : CallParts) (by : Stamp) (a : Asked) (r : Reply) → CanDo s j parts by (made a) a.answers → r ≡ told_of s.state s.operation j a.answers → IsTold s j a r
done_told s None parts by a r h e = absurd h
done_told s (Some j) parts by a r h e = e

-- the call that was let in can be done once nothing is left to be asked

pub can_do_first :
    (s : Standing) (by : Stamp) (n : ℕ) (who : Who) (c : Call) (boot : Option ℕ) (parts : CallParts) (count : ℕ)
    → s.lost ≡ None → begins c ≡ None → takes_up c ≡ None → IsLawful s (mark.Admit n who (job_of c) c boot) → FitsCall parts s.state c boot → by.number ≡ n
    → AreAsks count (first_course s.state c boot) → next_in (starved count (first_course s.state c boot)) ≡ next.Finish
    → CanDo (after s (mark.Admit n who (job_of c) c boot)) (Some (let_in n who c boot)) parts by (made (starved count (first_course s.state c boot))) (starved count (first_course s.state c boot)).answers
can_do_first s by n who c boot parts count lost none takes lawful fits same asks through =
    let there : Standing = after s (mark.Admit n who (job_of c) c boot) in
    let letin : IsLetIn s.state c boot = record { begins_none = none; takes_none = takes; carried = lawful.in_order.carried } in
    let is : IsOpen (let_in n who c boot) by.number who c boot = record { numbered = same; caller = refl; same_call = refl; same_boot = refl; own_job = refl } in (
      fits,
      record {
        in_order = (is, first_is_done there c boot count letin asks through);
        loss = subst (λ (o : Option ℕ). MarksLoss o (done_by there (let_in n who c boot) by.number (starved count (first_course s.state c boot)))) (sym lost) tt;
      },
    )

pub first_goes_on :
    (s : Standing) (by : Stamp) (n : ℕ) (who : Who) (c : Call) (boot : Option ℕ) (parts : CallParts)
    → s.lost ≡ None → begins c ≡ None → takes_up c ≡ None → IsLawful s (mark.Admit n who (job_of c) c boot) → FitsCall parts s.state c boot → by.number ≡ n
    → CanGoOn (after s (mark.Admit n who (job_of c) c boot)) parts by (first_course s.state c boot)
first_goes_on s by n who c boot parts lost none takes lawful fits same = λ count asks through. can_do_first s by n who c boot parts count lost none takes lawful fits same asks through

-- or it is away

asks_is : (n : Next) (x : Ask) → n ≡ next.Ask x → is_ask n ≡ true
asks_is n x e = ap is_ask e

pub first_is_kept :
    (s : Standing) (n : ℕ) (who : Who) (c : Call) (boot : Option ℕ) (w : Away) (count : ℕ) (x : Ask)
    → begins c ≡ None → takes_up c ≡ None → IsLawful s (mark.Admit n who (job_of c) c boot) → FitsCall w.parts s.state c boot → HasRooms w → w.course ≡ starved count (first_course s.state c boot)
    → AreAsks count (first_course s.state c boot) → next_in (starved count (first_course s.state c boot)) ≡ next.Ask x
    → IsOut (after s (mark.Admit n who (job_of c) c boot)) (Some (let_in n who c boot)) (Some (gone.Call w))
first_is_kept s n who c boot w count x none takes lawful fits rooms is asks waits =
    let letin : IsLetIn s.state c boot = record { begins_none = none; takes_none = takes; carried = lawful.in_order.carried } in
    record {
      away =
          subst (λ (a : Asked). IsAway s.state s.operation (let_in n who c boot) a) (sym is)
          (first_is_away s.state s.operation n who c boot count letin asks (asks_is (next_in (starved count (first_course s.state c boot))) x waits));
      parts = fits;
      rooms = rooms;
    }

-- nothing is open after the call is done

loss_job : (s : Standing) (o : Option ℕ) → s.job ≡ None → (standing s (loss o)).job ≡ None
loss_job s None e = e
loss_job s (Some boot) e = ap (λ (j : Option OpenJob). job_at_exit s.state boot j) e

closed_job : (s : Standing) (j : Option OpenJob) (parts : CallParts) (by : Stamp) (a : Asked) → CanDo s j parts by (made a) a.answers → (standing s (closing s j by.number a)).job ≡ None
closed_job s None parts by a h = absurd h
closed_job s (Some j) parts by a h = loss_job (after s (done_by s j by.number a)) (lost_boot (seq s.state j.call j.boot a.answers).state j.boot a.answers) refl

pub in_more : (b : Base) (marks more : List (Mark Stamp)) → in_force b (marks ++ more) ≡ standing (in_force b marks) (all_numbered more)
unfolding in_force
in_more b marks more = ap (λ (ms : List (Mark ℕ)). standing (at_base b) ms) (numbered_append marks more) ∙ standing-append (at_base b) (all_numbered marks) (all_numbered more)

none_open :
    (old new : HistoryWithRoom) (parts : CallParts) (by : Stamp) (a : Asked) → CanDo (force_in old) (force_in old).job parts by (made a) a.answers
    → new.history ≡ record old.history { marks = old.history.marks ++ done_in (force_in old) by (made a) a.answers } → (force_in new).job ≡ None
none_open old new parts by a can e =
    let s : Standing = force_in old in
    ap (λ (h : _). (in_force h.base h.marks).job) e
    ∙ ap (λ (x : Standing). x.job) (in_more old.history.base old.history.marks (done_in s by (made a) a.answers))
    ∙ ap (λ (ms : List (Mark ℕ)). (standing s ms).job) (done_is s s.job by a)
    ∙ closed_job s s.job parts by a can

-- the call is done, as the ledger shows it

closed :
    (old new : HistoryWithRoom) (parts : CallParts) (by : Stamp) (a : Asked) (r : Reply) → CanDo (force_in old) (force_in old).job parts by (made a) a.answers
    → new.history ≡ record old.history { marks = old.history.marks ++ done_in (force_in old) by (made a) a.answers } → r ≡ told_in (force_in old) a.answers
    → IsClosed (shown old) by.number a (shown new) r
closed old new parts by a r can e told =
    let s : Standing = force_in old in
    record {
      adds =
          shown_more old new (done_in s by (made a) a.answers) e
          ∙ ap (λ (ms : List (Mark ℕ)). with_marks (shown old) ms) (done_is s s.job by a ∙ ap (λ (x : Standing). closing x x.job by.number a) (sym (in_shown old)));
      lawful = subst (λ (x : Standing). IsDoneLawful x x.job by.number a) (sym (in_shown old)) (done_lawful s s.job parts by a can);
      told = subst (λ (x : Standing). IsTold x x.job a r) (sym (in_shown old)) (done_told s s.job parts by a r can told);
    }

pub closes :
    (old new : HistoryWithRoom) (h : Chaptered) (parts : CallParts) (by : Stamp) (n : ℕ) (a b : Asked) (r : Reply) → CanDo (force_in old) (force_in old).job parts by (made a) a.answers
    → new.history ≡ record old.history { marks = old.history.marks ++ done_in (force_in old) by (made a) a.answers } → r ≡ told_in (force_in old) a.answers
    → shown old ≡ h → by.number ≡ n → a ≡ b
    → LeadsTo h n b new (turn.Done r)
closes old new h parts by n a b r can e told is numbered same = (
  subst (λ (x : Chaptered). IsClosed x n b (shown new) r) is
      (subst (λ (k : ℕ). IsClosed (shown old) k b (shown new) r) numbered
      (subst (λ (x : Asked). IsClosed (shown old) by.number x (shown new) r) same (closed old new parts by a r can e told))),
  none_open old new parts by a can e,
)

-- what the turn of an open call comes to, with its course

pub turns_to :
    (old new : HistoryWithRoom) (h : Chaptered) (by : Stamp) (n : ℕ) (w : Away) (t : Turn) (b : ℕ → Asked)
    → CanGoOn (force_in old) w.parts by w.course
    → ((count : ℕ) (x : Ask) → AreAsks count w.course → next_in (starved count w.course) ≡ next.Ask x → IsOut (force_in old) (force_in old).job (Some (gone.Call (record w { course = starved count w.course }))))
    → shown old ≡ h → by.number ≡ n → ((count : ℕ) → starved count w.course ≡ b count)
    → TurnsTo by w old new t → (count : ℕ) × LeadsTo h n (b count) new t
turns_to old new h by n w (turn.Away v x) b can out is numbered same t =
    let count : ℕ = t.0 in (
      count,
      (
        ap (λ (u : Away). u.course) t.2 ∙ same count,
        ap next_in (sym (same count)) ∙ t.3,
        ap shown t.4 ∙ is,
        subst (λ (c : HistoryWithRoom). IsOut (force_in c) (force_in c).job (Some (gone.Call v))) (sym t.4)
            (subst (λ (u : Away). IsOut (force_in old) (force_in old).job (Some (gone.Call u))) (sym t.2) (out count x t.1 t.3)),
      ),
    )
turns_to old new h by n w (turn.Done r) b can out is numbered same t =
    (t.0, closes old new h w.parts by n (starved t.0 w.course) (b t.0) r (can t.0 t.1 t.2) t.3 t.4 is numbered (same t.0))

-- a call that was away is answered

pub waits : (s : Standing) (j : Option OpenJob) (w : Away) → IsOut s j (Some (gone.Call w)) → is_ask (next_in w.course) ≡ true
waits s None w h = absurd h
waits s (Some j) w h = h.away.waits

pub rooms_of : (s : Standing) (j : Option OpenJob) (w : Away) → IsOut s j (Some (gone.Call w)) → HasRooms w
rooms_of s None w h = absurd h
rooms_of s (Some j) w h = h.rooms

pub no_loss : (s : Standing) (m : Mark ℕ) → s.lost ≡ None → MarksLoss s.lost m
no_loss s m e = subst (λ (o : Option ℕ). MarksLoss o m) (sym e) tt

is_open : (j : OpenJob) (n : ℕ) → n ≡ j.number → j.job ≡ job_of j.call → IsOpen j n j.who j.call j.boot
is_open j n e own = record { numbered = e; caller = refl; same_call = refl; same_boot = refl; own_job = own }

ended_by : (s : Standing) (j : Option OpenJob) (w : Away) (by : Stamp) (x : Answer) → s.job ≡ j → s.lost ≡ None → IsOut s j (Some (gone.Call w)) → MayAnswerCall s j w.course by.number x → is_over s j ≡ true
    → CanDo s j w.parts by (made (answered w.course x)) (answered w.course x).answers
ended_by s None w by x is lost out may over = absurd out
ended_by s (Some j) w by x is lost out may over = (
  out.parts,
  record {
    in_order =
        subst (λ (k : Option OpenJob). IsDone s k by.number j.who j.call j.boot (made (answered w.course x)) (answered w.course x).answers (step_at s j.call j.boot (answered w.course x).answers).reply (step_at s j.call j.boot (answered w.course x).answers).transitions) (sym is)
        (is_open j by.number may.0 out.away.own, is_done_ended s j w.course x out.away over may.1.unsent);
    loss = no_loss s (done_by s j by.number (answered w.course x)) lost;
  },
)

pub can_end : (s : Standing) (w : Away) (by : Stamp) (x : Answer) → s.lost ≡ None → IsOut s s.job (Some (gone.Call w)) → MayAnswerCall s s.job w.course by.number x → is_over s s.job ≡ true
    → CanDo s s.job w.parts by (made (answered w.course x)) (answered w.course x).answers
can_end s w by x lost out may over = ended_by s s.job w by x refl lost out may over

live_by : (s : Standing) (j : OpenJob) (w : Away) (n : ℕ) (x : Answer) → IsOut s (Some j) (Some (gone.Call w)) → MayAnswerCall s (Some j) w.course n x → is_over s (Some j) ≡ false → IsAnsweredLive s.state s.operation j w.course x
live_by s j w n x out may over = record { away = out.away; live = over; not_ended = may.1.ended_first over; unsent = may.1.unsent }

then_by : (s : Standing) (j : Option OpenJob) (w : Away) (by : Stamp) (x : Answer) (count : ℕ) → s.job ≡ j → s.lost ≡ None → IsOut s j (Some (gone.Call w)) → MayAnswerCall s j w.course by.number x → is_over s j ≡ false
    → AreAsks count (answered w.course x) → next_in (starved count (answered w.course x)) ≡ next.Finish
    → CanDo s j w.parts by (made (starved count (answered w.course x))) (starved count (answered w.course x)).answers
then_by s None w by x count is lost out may over asks through = absurd out
then_by s (Some j) w by x count is lost out may over asks through =
    let a : Asked = starved count (answered w.course x) in (
      out.parts,
      record {
        in_order =
            subst (λ (k : Option OpenJob). IsDone s k by.number j.who j.call j.boot (made a) a.answers (step_at s j.call j.boot a.answers).reply (step_at s j.call j.boot a.answers).transitions) (sym is)
            (is_open j by.number may.0 out.away.own, is_done_then s j w.course x count (live_by s j w by.number x out may over) asks through);
        loss = no_loss s (done_by s j by.number a) lost;
      },
    )

pub can_go_on : (s : Standing) (w : Away) (by : Stamp) (x : Answer) → s.lost ≡ None → IsOut s s.job (Some (gone.Call w)) → MayAnswerCall s s.job w.course by.number x → is_over s s.job ≡ false
    → CanGoOn s w.parts by (answered w.course x)
can_go_on s w by x lost out may over = λ count asks through. then_by s s.job w by x count refl lost out may over asks through

out_by : (s : Standing) (j : Option OpenJob) (w : Away) (n : ℕ) (x : Answer) (count : ℕ) (y : Ask) → IsOut s j (Some (gone.Call w)) → MayAnswerCall s j w.course n x → is_over s j ≡ false
    → AreAsks count (answered w.course x) → next_in (starved count (answered w.course x)) ≡ next.Ask y
    → IsOut s j (Some (gone.Call (record w { course = starved count (answered w.course x) })))
out_by s None w n x count y out may over asks waits = absurd out
out_by s (Some j) w n x count y out may over asks waits = record {
  away = stays_away s.state s.operation j w.course x count (live_by s j w n x out may over) asks (asks_is (next_in (starved count (answered w.course x))) y waits);
  parts = out.parts;
  rooms = record { told_empty = out.rooms.told_empty; told_room = out.rooms.told_room; end_empty = out.rooms.end_empty; end_room = out.rooms.end_room };
}

pub stays_out : (s : Standing) (w : Away) (n : ℕ) (x : Answer) → IsOut s s.job (Some (gone.Call w)) → MayAnswerCall s s.job w.course n x → is_over s s.job ≡ false
    → (count : ℕ) (y : Ask) → AreAsks count (answered w.course x) → next_in (starved count (answered w.course x)) ≡ next.Ask y
    → IsOut s s.job (Some (gone.Call (record w { course = starved count (answered w.course x) })))
stays_out s w n x out may over count y asks waits = out_by s s.job w n x count y out may over asks waits

-- a call that asks on takes no room
pub asks_on : (old new : HistoryWithRoom) (by : Stamp) (w : Away) (t : Turn) → TurnsTo by w old new t → StaysAway old new t
asks_on old new by w (turn.Away v x) h = ap (λ (c : HistoryWithRoom). c.spare) h.4
asks_on old new by w (turn.Done r) h = tt
