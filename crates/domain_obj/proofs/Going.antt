-- A call that asks until it is done: what holds between two of its asks.
use Rattle.std.proofs.Common.{◌≡◌, ◌≤◌, ℕ, zero, suc, ◌+◌, ◌++◌, List, [], ◌∷◌, length, is_some, Bool, Option, None, Some, refl, sym, ap, ◌∙◌, subst, append_assoc, append-nil, length-append, arith}
use Rattle.history_spec.specs.Chapter.{tagged}
use Rattle.history_spec.specs.Pass.{own}
use Rattle.history_spec.proofs.Beginnings.{begins_itself}
use Rattle.virt_types.specs.Below.types_base.declared.caller.Front.{Front}
use Rattle.domain_spec.specs.Types.{Answer, Ask, Phase, Reply, Transition}
use Rattle.domain_spec.specs.declared.step.Outcome.{Outcome}
use Rattle.domain_spec.specs.declared.open.OpenJob.{OpenJob}
use Rattle.domain_spec.specs.declared.mark.Mark.{Mark}
use Rattle.domain_spec.specs.declared.mark.Mark.TheVariants as mark
use Rattle.domain_spec.specs.Cell.{OpenCall, Share, share_of}
use Rattle.domain_core.specs.Celled.{CellShare, Celled, cell_in, cell_share, chapter_of, monitor_of}
use Rattle.domain_core.specs.Keeping.{no_mark_lowers}
use Rattle.domain_core.specs.Meaning.{meaning}
use Rattle.domain_obj.specs.Asking.{AsksLast, FitsAsk, IsAsked, MayBeAnswered}
use Rattle.domain_obj.specs.Finishing.{IsAway, IsClosed, IsFinished, IsFinishedBy, IsPhased, IsStillAway}
use Rattle.domain_obj.specs.InTurn.{DomainPass}
use Rattle.domain_core.specs.Leading.{IsTold}
use Rattle.domain_obj.specs.Running.{Goes, IsLegalHistory, IsSpent}
use Rattle.domain_obj.specs.Turns.{HasAnswered}
use Rattle.domain_core.specs.declared.ticket.Back.{Back}
use Rattle.domain_core.specs.declared.ticket.Back.TheVariants as back
use Rattle.domain_core.specs.declared.next.Next.{Next}
use Rattle.domain_obj.proofs.Leading.{led_own}
use Rattle.domain_obj.proofs.Placing.{placed_last}
use Rattle.domain_core.specs.declared.ticket.Ticket.{Ticket}
use Rattle.domain_core.specs.OfShares.{AsideStays}
use Rattle.domain_core.specs.OfTurns.{HasLedTo}
use Rattle.turn_cell.proofs.Turning.{went_on}
use Rattle.domain_core.specs.OfShares.{told, told_then}
use Rattle.domain_core.specs.OfShares.{whose}

-- turns after turns

pub goes_on : (m n : ℕ) (xs ys : List (ℕ × Mark ℕ)) (a b c : DomainPass) → Goes m xs a b → Goes n ys b c → Goes (m + n) (xs ++ ys) a c
goes_on m n xs ys a b c p q = record {
  went = went_on meaning no_mark_lowers m n xs ys a b c p.went q.went;
  legal = λ some. legal_through (m + length xs) (n + length ys) (IsLegalHistory b.seen) (IsLegalHistory c.seen) p.legal q.legal q.legal_seen (some_of m n xs ys some);
  legal_seen = λ l. q.legal_seen (p.legal_seen l);
  legal_held = λ l. q.legal_held (p.legal_held l);
} where
  some_of : (m n : ℕ) (xs ys : List (ℕ × Mark ℕ)) → 1 ≤ (m + n) + length (xs ++ ys) → 1 ≤ (m + length xs) + (n + length ys)
  some_of m n xs ys some = omega (arith, some, length-append xs ys)

  -- what was seen at last is legal by the last turns, or by those before
  legal_through : (i j : ℕ) (B C : Type 0) → (1 ≤ i → B) → (1 ≤ j → C) → (B → C) → 1 ≤ i + j → C
  legal_through i zero B C first last on some = on (first (omega (arith, some)))
  legal_through i (suc j) B C first last on some = last (omega arith)

pub goes_nowhere : (pass : DomainPass) → Goes 0 [] pass pass
goes_nowhere pass = record {
  went = record {
    same = record { cell = refl; first = refl; number = refl; parts = refl; ended = refl };
    spent = refl;
    turns_rose = omega arith;
    seen = begins_itself meaning.rising pass.seen;
    mine = sym (append-nil pass.mine);
    held = refl;
    held_seen = λ l. l;
  };
  legal = λ some. absurd (omega (arith, some));
  legal_seen = λ l. l;
  legal_held = λ l. l;
}

-- what holds between two asks
pub record Keeps (first now : DomainPass) (asked : Ask) (sent : Bool) (report report_now : List (Ask × Answer)) : Type 0 where
  pub away : IsAway now asked sent
  pub more : List (Ask × Answer)
  pub reported : report_now ≡ report ++ more
  pub still : IsStillAway first now more

pub stays_first : (s : Share) → AsideStays s s
stays_first s = record { waits = refl; registrations = refl; ears = refl }

pub stays_on : (s t u : Share) → AsideStays s t → AsideStays t u → AsideStays s u
stays_on s t u p q = record { waits = q.waits ∙ p.waits; registrations = q.registrations ∙ p.registrations; ears = q.ears ∙ p.ears }

open_of : (o : Option OpenCall) (y : Ask) → AsksLast o y → (c : OpenCall) × (o ≡ Some c)
open_of None y h = absurd h
open_of (Some c) y h = (c, refl)

pub keeps_first : (pass : DomainPass) (asked : Ask) (sent : Bool) (report : List (Ask × Answer)) → IsAway pass asked sent → Keeps pass pass asked sent report report
keeps_first pass asked sent report away =
    let (c, is) = open_of pass.share.kept.call asked away.last in
    record {
      away = away;
      more = [];
      reported = sym (append-nil report);
      still = record { turns = 0; goes = goes_nowhere pass; chapter = refl; was = c; call = c; was_open = is; is_open = is; job = refl; heard = sym (append-nil (told c.asks c.answers)); operation = refl; aside = stays_first pass.share.kept };
    }

pub may_be : (first now : DomainPass) (asked : Ask) (sent : Bool) (report report_now : List (Ask × Answer)) (x : Answer) (sent_now linked : Bool) → Keeps first now asked sent report report_now → sent_now ≡ sent → FitsAsk asked sent x linked
    → MayBeAnswered now asked sent_now x linked
may_be first now asked sent report report_now x sent_now linked k same fits = record {
  last = k.away.last;
  awaits = k.away.awaits;
  fits = subst (λ (s : Bool). FitsAsk asked s x linked) (sym same) fits;
  monitor = same ∙ k.away.monitor;
}

-- an open call's share

pub some_call : (a b : OpenCall) → Some a ≡ Some b → a ≡ b
some_call a b e = cc

pub chapter_open : (o : Option OpenCall) (c : OpenCall) (n : ℕ) → o ≡ Some c → chapter_of o n ≡ Some n
chapter_open o c n e = ap (λ (x : Option OpenCall). chapter_of x n) e

pub monitor_open : (o : Option OpenCall) (c : OpenCall) (out : Option ℕ) → o ≡ Some c → monitor_of o out ≡ out
monitor_open o c out e = ap (λ (x : Option OpenCall). monitor_of x out) e

-- the chapter of a call that was open before a turn
pub before_chapter : (before : DomainPass) (old : Celled) (c : OpenCall) → cell_share old before.number ≡ before.share → before.share.kept.call ≡ Some c → before.share.chapter ≡ Some old.core.turning.chapter
before_chapter before old c was is =
    sym (ap (λ (s : CellShare). s.chapter) was)
    ∙ chapter_open (share_of (cell_in old) before.number).call c old.core.turning.chapter (ap (λ (s : CellShare). s.kept.call) was ∙ is)

pub after_chapter : (after : DomainPass) (number : ℕ) (new : Celled) (c : OpenCall) → after.share ≡ cell_share new number → after.share.kept.call ≡ Some c → after.share.chapter ≡ Some new.core.turning.chapter
after_chapter after number new c is there =
    ap (λ (s : CellShare). s.chapter) is
    ∙ chapter_open (share_of (cell_in new) number).call c new.core.turning.chapter (sym (ap (λ (s : CellShare). s.kept.call) is) ∙ there)

pub after_monitor : (after : DomainPass) (number : ℕ) (new : Celled) (c : OpenCall) → after.share ≡ cell_share new number → after.share.kept.call ≡ Some c → after.share.monitor ≡ new.out
after_monitor after number new c is there =
    ap (λ (s : CellShare). s.monitor) is
    ∙ monitor_open (share_of (cell_in new) number).call c new.out (sym (ap (λ (s : CellShare). s.kept.call) is) ∙ there)

-- what it was told by then
heard_then : (was call now : OpenCall) (asked : Ask) (x : Answer) (more : List (Ask × Answer)) (asks : List Ask) (answers : List Answer) → told call.asks call.answers ≡ told was.asks was.answers ++ more → now ≡ call → told asks answers ≡ told_then now asked x
    → told asks answers ≡ told was.asks was.answers ++ (more ++ told (asked ∷ []) (x ∷ []))
heard_then was call now asked x more asks answers heard same is =
    is ∙ ap (λ (c : OpenCall). told_then c asked x) same ∙ ap (λ (l : List (Ask × Answer)). l ++ told (asked ∷ []) (x ∷ [])) heard ∙ append_assoc (told was.asks was.answers) more (told (asked ∷ []) (x ∷ []))

no_marks : (c : ℕ) (ms : List (Mark ℕ)) → ms ≡ [] → tagged c ms ≡ []
no_marks c ms e = ap (λ (l : List (Mark ℕ)). tagged c l) e

-- it asks on
pub keeps_on : {G M E Z : Type 0} (first now after : DomainPass) (asked next_ask : Ask) (sent : Bool) (next : Ticket G M E Z) (report report_now report_then : List (Ask × Answer)) (x : Answer) (place : Front) → Keeps first now asked sent report report_now
    → report_then ≡ report_now ++ told (asked ∷ []) (x ∷ []) → HasAnswered asked x now after (back.Away next next_ask) place → Keeps first after next_ask (is_some next.monitor) report report_then
keeps_on first now after asked next_ask sent next report report_now report_then x place k then_is h =
    let l = h.leaves in
    let heard_more = told (asked ∷ []) (x ∷ []) in
    let same : h.call ≡ k.still.call = some_call h.call k.still.call (sym h.was_open ∙ k.still.is_open) in
    record {
      away = record {
        last = subst (λ (o : Option OpenCall). AsksLast o next_ask) (sym l.is_open) (l.before, l.asks_last);
        awaits = h.waits;
        monitor = h.ticket ∙ ap is_some (sym (after_monitor after now.number h.new l.away h.share_is l.is_open));
      };
      more = k.more ++ heard_more;
      reported = then_is ∙ ap (λ (l : List (Ask × Answer)). l ++ heard_more) k.reported ∙ append_assoc report k.more heard_more;
      still = record {
        turns = k.still.turns + 1;
        goes =
            subst (λ (ms : List (ℕ × Mark ℕ)). Goes (k.still.turns + 1) ms first after) (no_marks h.new.core.turning.chapter (own whose now.number h.left) l.own_are)
            (goes_on k.still.turns 1 [] (tagged h.new.core.turning.chapter (own whose now.number h.left)) first now after k.still.goes h.goes);
        chapter =
            after_chapter after now.number h.new l.away h.share_is l.is_open ∙ ap Some h.same_chapter
            ∙ sym (before_chapter now h.old h.call h.share_was h.was_open) ∙ k.still.chapter;
        was = k.still.was;
        call = l.away;
        was_open = k.still.was_open;
        is_open = l.is_open;
        job = l.job_is ∙ ap (λ (c : OpenCall). c.job) same ∙ k.still.job;
        heard = heard_then k.still.was k.still.call h.call asked x k.more l.away.asks l.away.answers k.still.heard same l.told_is;
        operation = l.operation_is ∙ k.still.operation;
        aside = stays_on first.share.kept now.share.kept after.share.kept k.still.aside h.keeps.aside;
      };
    }

-- the one mark of the last turn is the mark of the whole
one_mark : (n chapter : ℕ) (left : List (Mark ℕ)) (before after : DomainPass) (m k : Mark ℕ) (c : ℕ) → Goes n (tagged chapter left) before after → left ≡ m ∷ [] → m ≡ k → chapter ≡ c → Goes n (tagged c (k ∷ [])) before after
one_mark n chapter left before after m k c goes is same e =
    subst (λ (h : ℕ). Goes n (tagged h (k ∷ [])) before after) e
    (subst (λ (x : Mark ℕ). Goes n (tagged chapter (x ∷ [])) before after) same (subst (λ (ms : List (Mark ℕ)). Goes n (tagged chapter ms) before after) is goes))

pub closed_share : (after : DomainPass) (number : ℕ) (new : Celled) → after.share ≡ cell_share new number → after.share.kept.call ≡ None → IsClosed after
closed_share after number new is none =
    let none_there : (share_of (cell_in new) number).call ≡ None = sym (ap (λ (s : CellShare). s.kept.call) is) ∙ none in
    record {
      call = none;
      monitor = ap (λ (s : CellShare). s.monitor) is ∙ ap (λ (o : Option OpenCall). monitor_of o new.out) none_there;
      chapter = ap (λ (s : CellShare). s.chapter) is ∙ ap (λ (o : Option OpenCall). chapter_of o new.core.turning.chapter) none_there;
    }

-- it is closed by this mark, which says all that it was told
closes_by : {G M E Z : Type 0} (first now after : DomainPass) (asked : Ask) (sent : Bool) (report report_now : List (Ask × Answer)) (x : Answer) (r : Back G M E Z) (place : Front) (k : Keeps first now asked sent report report_now) (h : HasAnswered asked x now after r place) (asks : List Ask) (answers : List Answer)
    (m own_mark : Mark ℕ) → own whose now.number h.left ≡ own_mark ∷ [] → own_mark ≡ m → told asks answers ≡ told_then h.call asked x → after.share.kept.call ≡ None
    → IsFinishedBy first after (k.more ++ told (asked ∷ []) (x ∷ [])) place k.still.was asks answers m
closes_by first now after asked sent report report_now x r place k h asks answers m own_mark own_is is told_is none =
    let same : h.call ≡ k.still.call = some_call h.call k.still.call (sym h.was_open ∙ k.still.is_open) in
    let goes = goes_on k.still.turns 1 [] (tagged h.new.core.turning.chapter (own whose now.number h.left)) first now after k.still.goes h.goes in
    record {
      turns = k.still.turns + 1;
      chapter = h.new.core.turning.chapter;
      was_open = k.still.was_open;
      in_chapter = sym k.still.chapter ∙ before_chapter now h.old h.call h.share_was h.was_open ∙ ap Some (sym h.same_chapter);
      goes = one_mark (k.still.turns + 1) h.new.core.turning.chapter (own whose now.number h.left) first after own_mark m h.new.core.turning.chapter goes own_is is refl;
      heard = heard_then k.still.was k.still.call h.call asked x k.more asks answers k.still.heard same told_is;
      closed = closed_share after now.number h.new h.share_is none;
      aside = stays_on first.share.kept now.share.kept after.share.kept k.still.aside h.keeps.aside;
      placed = placed_last after now.number h.new (cell_in h.old).marks h.left [] m place h.saw h.marks_are h.of_pass (own_is ∙ ap (λ (y : Mark ℕ). y ∷ []) is) h.place_is;
    }

-- the call's answers so far are reported
reported_so : (report report_now report_then more : List (Ask × Answer)) (asked : Ask) (x : Answer) → report_now ≡ report ++ more → report_then ≡ report_now ++ told (asked ∷ []) (x ∷ []) → report_then ≡ report ++ (more ++ told (asked ∷ []) (x ∷ []))
reported_so report report_now report_then more asked x reported then_is =
    then_is ∙ ap (λ (l : List (Ask × Answer)). l ++ told (asked ∷ []) (x ∷ [])) reported ∙ append_assoc report more (told (asked ∷ []) (x ∷ []))

-- the Done, or the Phase, of the call that was open at first

done_as : (n m : ℕ) (j k : OpenJob) (asks : List Ask) (answers : List Answer) (r : Reply) (events : List Transition) → n ≡ m → j ≡ k → mark.Done n j.who j.call j.boot asks answers r events ≡ mark.Done m k.who k.call k.boot asks answers r events
done_as n m j k asks answers r events e f = ap (λ (i : ℕ). mark.Done i j.who j.call j.boot asks answers r events) e ∙ ap (λ (o : OpenJob). mark.Done m o.who o.call o.boot asks answers r events) f

phase_as : (n m : ℕ) (j k : OpenJob) (phase : Phase) (asks : List Ask) (answers : List Answer) (next : Outcome) (events : List Transition) → n ≡ m → j ≡ k → mark.Phase n j.who phase asks answers next events ≡ mark.Phase m k.who phase asks answers next events
phase_as n m j k phase asks answers next events e f = ap (λ (i : ℕ). mark.Phase i j.who phase asks answers next events) e ∙ ap (λ (o : OpenJob). mark.Phase m o.who phase asks answers next events) f

-- it is done
pub finishes : {G M E Z : Type 0} (first now after : DomainPass) (asked : Ask) (sent : Bool) (report report_now report_then : List (Ask × Answer)) (x : Answer) (r : Reply) (place : Front) → Keeps first now asked sent report report_now
    → report_then ≡ report_now ++ told (asked ∷ []) (x ∷ []) → HasAnswered {G = G} {M = M} {E = E} {Z = Z} asked x now after (back.Done r) place
    → (more : List (Ask × Answer)) × (report_then ≡ report ++ more) × IsFinished first after more r place
finishes first now after asked sent report report_now report_then x r place k then_is h =
    let l = h.leaves in
    let same : h.call ≡ k.still.call = some_call h.call k.still.call (sym h.was_open ∙ k.still.is_open) in
    let job : h.call.job ≡ k.still.was.job = ap (λ (c : OpenCall). c.job) same ∙ k.still.job in (
      k.more ++ told (asked ∷ []) (x ∷ []),
      reported_so report report_now report_then k.more asked x k.reported then_is,
      record {
        call = k.still.was;
        normal = λ nested. h.closed (ap (λ (j : OpenJob). j.job) job ∙ nested);
        asks = l.asks;
        answers = l.answers;
        events = l.events;
        by = closes_by first now after asked sent report report_now x (back.Done r) place k h l.asks l.answers
            (mark.Done first.number k.still.was.job.who k.still.was.job.call k.still.was.job.boot l.asks l.answers r l.events)
            (mark.Done now.number h.call.job.who h.call.job.call h.call.job.boot l.asks l.answers r l.events) l.own_are
            (done_as now.number first.number h.call.job k.still.was.job l.asks l.answers r l.events k.still.goes.went.same.number job) l.told_is h.keeps.call;
        operation = h.keeps.operation ∙ k.still.operation;
      },
    )

-- the phase is done
pub phases : {G M E Z : Type 0} (first now after : DomainPass) (asked : Ask) (sent : Bool) (report report_now report_then : List (Ask × Answer)) (x : Answer) (said : Next) (place : Front) → Keeps first now asked sent report report_now
    → report_then ≡ report_now ++ told (asked ∷ []) (x ∷ []) → HasAnswered {G = G} {M = M} {E = E} {Z = Z} asked x now after (back.Phased said) place
    → (more : List (Ask × Answer)) × (report_then ≡ report ++ more) × IsPhased first after more said place
phases first now after asked sent report report_now report_then x said place k then_is h =
    let l = h.leaves in
    let same : h.call ≡ k.still.call = some_call h.call k.still.call (sym h.was_open ∙ k.still.is_open) in
    let job : h.call.job ≡ k.still.was.job = ap (λ (c : OpenCall). c.job) same ∙ k.still.job in
    let led : HasLedTo now.number h.closed.0 (mark.Phase now.number h.call.job.who l.phase l.asks l.answers l.next l.events ∷ []) =
    subst (λ (ms : List (Mark ℕ)). HasLedTo now.number h.closed.0 ms) l.own_are (led_own now.number h.closed.0 h.left h.closed.1) in (
      k.more ++ told (asked ∷ []) (x ∷ []),
      reported_so report report_now report_then k.more asked x k.reported then_is,
      record {
        call = k.still.was;
        operation = l.operation;
        is_open = sym k.still.operation ∙ l.is_open;
        its_caller = sym (ap (λ (j : OpenJob). j.who) job) ∙ l.its_caller;
        phase = l.phase;
        due = l.due;
        asks = l.asks;
        answers = l.answers;
        next = l.next;
        events = l.events;
        by = closes_by first now after asked sent report report_now x (back.Phased said) place k h l.asks l.answers
            (mark.Phase first.number k.still.was.job.who l.phase l.asks l.answers l.next l.events)
            (mark.Phase now.number h.call.job.who l.phase l.asks l.answers l.next l.events) l.own_are
            (phase_as now.number first.number h.call.job k.still.was.job l.phase l.asks l.answers l.next l.events k.still.goes.went.same.number job) l.told_is h.keeps.call;
        leads = subst (λ (o : Outcome). IsTold o said) (sym led.1) h.closed.2;
        operation_is = l.operation_is;
      },
    )

-- no ticket was left for the turn of the answer
pub spends : (first now after : DomainPass) (asked : Ask) (sent : Bool) (report report_now report_then : List (Ask × Answer)) (x : Answer) → Keeps first now asked sent report report_now → report_then ≡ report_now ++ told (asked ∷ []) (x ∷ []) → IsSpent now after
    → (more : List (Ask × Answer)) × (y : Ask) × (a : Answer) × (mid : DomainPass) × IsStillAway first mid more × IsAsked mid y × (report_then ≡ report ++ (more ++ told (y ∷ []) (a ∷ []))) × IsSpent mid after
spends first now after asked sent report report_now report_then x k then_is spent =
    (k.more, asked, x, now, k.still, k.away.last, then_is ∙ ap (λ (l : List (Ask × Answer)). l ++ told (asked ∷ []) (x ∷ [])) k.reported ∙ append_assoc report k.more (told (asked ∷ []) (x ∷ [])), spent)
