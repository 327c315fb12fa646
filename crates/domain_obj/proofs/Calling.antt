-- A call from its first look to its end: what holds between two of its looks, and what becomes of it.
use Rattle.std.proofs.Common.{◌≡◌, ◌⊎◌, inl, inr, ◌≤◌, ℕ, ◌+◌, ◌++◌, List, [], ◌∷◌, length, Bool, false, Option, None, Some, IfSome, slice_get, zero, suc, refl, sym, ap, ◌∙◌, subst, append-nil, arith}
use Rattle.std.specs.Prelude.{min}
use Rattle.std.proofs.Math.Nat.{min-le_left}
use Rattle.virt_types.specs.Below.types_base.declared.caller.Front.{Front}
use Rattle.history_spec.specs.Begins.{Begins}
use Rattle.history_spec.specs.Chapter.{tagged}
use Rattle.history_spec.proofs.Beginnings.{begins_chapter, begins_itself, begins_through}
use Rattle.domain_spec.specs.Types.{Answer, Ask, Call, RefusalCode, Reply, Transition, Who}
use Rattle.domain_spec.specs.Types.call
use Rattle.domain_spec.specs.Types.code
use Rattle.domain_spec.specs.declared.core_step.First.{First}
use Rattle.domain_spec.specs.declared.core_step.First.TheVariants as first
use Rattle.domain_spec.specs.declared.mark.HeldJobs.{HeldJobs}
use Rattle.domain_spec.specs.declared.mark.Mark.{Mark}
use Rattle.domain_spec.specs.declared.mark.Mark.TheVariants as mark
use Rattle.domain_spec.specs.declared.open.OpenJob.{OpenJob}
use Rattle.domain_spec.specs.Call.{job_of}
use Rattle.domain_spec.specs.Cell.{OpenCall, Share}
use Rattle.domain_spec.specs.Chapter.{rising_number}
use Rattle.domain_spec.specs.Excluded.{excluded_reply}
use Rattle.domain_obj.specs.Asking.{IsAsked}
use Rattle.domain_obj.specs.Finishing.{IsClosed, IsFinished, IsStillAway}
use Rattle.domain_obj.specs.InTurn.{DomainPass}
use Rattle.domain_obj.specs.Placing.{IsPlaced}
use Rattle.domain_obj.specs.Refusing.{IsLeftUndone, IsRefusedSo, IsSpentWaiting}
use Rattle.domain_obj.specs.Running.{DomainHistory, Goes, IsAtRest, IsReady, IsSpent}
use Rattle.domain_obj.proofs.Going.{goes_nowhere, goes_on, some_call}
use Rattle.domain_core.specs.Celled.{CellShare}
use Rattle.domain_core.specs.Keeping.{no_mark_lowers}
use Rattle.domain_core.specs.Shares.{IsFree, KeepsFirst}
use Rattle.domain_obj.specs.Called.{CarriesBoot, HasCalled, IsDone, IsSpentAway, IsTimedOut}
use Rattle.domain_obj.specs.Ending.{HasEnded}
use Rattle.domain_obj.specs.Looking.{KnowsFirst, WasLiveAt, first_after}
use Rattle.domain_obj.specs.Turned.{IsAwayNow, IsDoneAtOnce, IsLeftNow, IsReadyToLook, IsRefusedNow, WaitsNow, WasLetIn, job_let_in, waiting_as}
use Rattle.domain_obj.specs.declared.ending.Called.{Called}
use Rattle.domain_obj.specs.declared.ending.Called.TheVariants as called
use Rattle.domain_obj.proofs.Known.{live_on}
use Rattle.job_rules.specs.declared.record.JobRecord.{JobRecord}
use Rattle.domain_core.specs.OfShares.{AsideStays, RestStays}
use Rattle.refusals.specs.Replies.{IsExcludedReply}
use Rattle.domain_core.specs.OfShares.{told}

-- the pass was at rest, and nothing is kept for it now but who waits by it
pub record Rests (who : Who) (before now : DomainPass) : Type 0 where
  pub at_rest : IsAtRest before
  pub share : now.share ≡ waiting_as now.share.kept.waits before.share
  pub waits : IfSome now.share.kept.waits (λ w. w ≡ who)

-- the boot that is kept was live in a history that goes on from what the pass had seen at first
abbrev pub FoundFirst : First → DomainHistory → DomainHistory → Type 0
FoundFirst first.Now before now = Unit {0}
FoundFirst (first.Boot boot) before now = (found : DomainHistory) × Begins rising_number before found × WasLiveAt found boot now

-- a Destroy alone keeps a boot
abbrev pub IsOfDestroy : First → Call → Type 0
IsOfDestroy first.Now d = Unit {0}
IsOfDestroy (first.Boot boot) d = d ≡ call.Destroy

-- what holds before a look
pub record LooksOn (who : Who) (d : Call) (before now : DomainPass) (f : First) (count : ℕ) : Type 0 where
  pub turns : ℕ
  pub goes : Goes turns [] before now
  pub counted : count ≤ turns
  pub rests : now.spent ≡ false → Rests who before now
  pub keeps : now.spent ≡ false → KeepsFirst now.share.kept who d f
  pub of_destroy : IsOfDestroy f d
  pub found : FoundFirst f before.seen now.seen

-- at first

same_waits : (s : CellShare) → s ≡ waiting_as s.kept.waits s
same_waits s = refl

rests_first : (who : Who) (pass : DomainPass) → IsAtRest pass → Rests who pass pass
rests_first who pass rest = record {
  at_rest = rest;
  share = same_waits pass.share;
  waits = subst (λ (o : Option Who). IfSome o (λ w. w ≡ who)) (sym rest.waits) tt;
}

ready_rests : (pass : DomainPass) → IsReady pass → pass.spent ≡ false → IsAtRest pass
ready_rests pass (inl spent) fresh = cc
ready_rests pass (inr rest) fresh = rest

pub looks_first : (who : Who) (d : Call) (pass : DomainPass) → IsReady pass → LooksOn who d pass pass first.Now 0
looks_first who d pass ready = record {
  turns = 0;
  goes = goes_nowhere pass;
  counted = omega arith;
  rests = λ fresh. rests_first who pass (ready_rests pass ready fresh);
  keeps = λ fresh. tt;
  of_destroy = tt;
  found = tt;
}

-- it may look

knows_found : (f : First) (before now : DomainHistory) → FoundFirst f before now → KnowsFirst f now
knows_found first.Now before now h = tt
knows_found (first.Boot boot) before now (found, since, at) = (found, at)

pub free_rests : (who : Who) (before now : DomainPass) → Rests who before now → IsFree now.share.kept who
free_rests who before now r = record {
  no_call = ap (λ (s : CellShare). s.kept.call) r.share ∙ r.at_rest.call;
  no_operation = ap (λ (s : CellShare). s.kept.operation) r.share ∙ r.at_rest.operation;
  waits = r.waits;
}

pub ready_to_look : (who : Who) (d : Call) (before now : DomainPass) (f : First) (count : ℕ) → LooksOn who d before now f count → IsReadyToLook who d f now
ready_to_look who d before now f count k = record {
  free = λ fresh. free_rests who before now (k.rests fresh);
  keeps = k.keeps;
  known = knows_found f before.seen now.seen k.found;
}

-- it waits on

again_waits : (a b : Option Who) (s t u : CellShare) → t ≡ waiting_as a s → u ≡ waiting_as b t → u ≡ waiting_as b s
again_waits a b s t u e f = f ∙ ap (λ (x : CellShare). waiting_as b x) e

waits_is : (b : Option Who) (t u : CellShare) → u ≡ waiting_as b t → u.kept.waits ≡ b
waits_is b t u e = ap (λ (x : CellShare). x.kept.waits) e

pub rests_on : (who : Who) (before now after : DomainPass) → Rests who before now → after.share ≡ waiting_as (Some who) now.share → Rests who before after
rests_on who before now after r same =
    let is : after.share.kept.waits ≡ Some who = waits_is (Some who) now.share after.share same in
    record {
      at_rest = r.at_rest;
      share = subst (λ (o : Option Who). after.share ≡ waiting_as o before.share) (sym is) (again_waits now.share.kept.waits (Some who) before.share now.share after.share r.share same);
      waits = subst (λ (o : Option Who). IfSome o (λ v. v ≡ who)) (sym is) refl;
    }

found_on : (f : First) (before now after : DomainHistory) → Begins rising_number now after → FoundFirst f before now → FoundFirst f before after
found_on first.Now before now after begins h = tt
found_on (first.Boot boot) before now after begins (found, since, at) = (found, since, live_on found now after boot at begins)

keeps_on : (who : Who) (d : Call) (f : First) (s : Share) → IsOfDestroy f d → s.waits ≡ Some who → KeepsFirst s who d f
keeps_on who d first.Now s of waits = tt
keeps_on who d (first.Boot boot) s of waits = (of, waits)

first_is : (d : Call) (f : First) (boot : Option ℕ) → (first_after f d boot ≡ f) ⊎ ((d ≡ call.Destroy) × (first_after f d boot ≡ first.Boot boot))
first_is d (first.Boot kept) boot = inl refl
first_is call.Destroy first.Now boot = inr (refl, refl)
first_is d first.Now boot = inl refl

of_destroy_by : (d : Call) (f now : First) (boot : Option ℕ) → IsOfDestroy f d → (now ≡ f) ⊎ ((d ≡ call.Destroy) × (now ≡ first.Boot boot)) → IsOfDestroy now d
of_destroy_by d f now boot of (inl same) = subst (λ (x : First). IsOfDestroy x d) (sym same) of
of_destroy_by d f now boot of (inr (is, new)) = subst (λ (x : First). IsOfDestroy x d) (sym new) is

found_by : (who : Who) (d : Call) (f later : First) (before : DomainHistory) (now after : DomainPass) (boot : Option ℕ) → Begins rising_number before after.seen → FoundFirst f before now.seen → WaitsNow who now after boot
    → (later ≡ f) ⊎ ((d ≡ call.Destroy) × (later ≡ first.Boot boot)) → FoundFirst later before after.seen
found_by who d f later before now after boot begins found w (inl same) = subst (λ (x : First). FoundFirst x before after.seen) (sym same) (found_on f before now.seen after.seen w.goes.went.seen found)
found_by who d f later before now after boot begins found w (inr (is, new)) =
    subst (λ (x : First). FoundFirst x before after.seen) (sym new)
    (after.seen, begins, record { begins = begins_itself rising_number after.seen; live = w.live; counted = w.counted })

pub looks_on : (who : Who) (d : Call) (before now after : DomainPass) (f : First) (count next : ℕ) (boot : Option ℕ) → LooksOn who d before now f count → next ≤ count + 1 → WaitsNow who now after boot → LooksOn who d before after (first_after f d boot) next
looks_on who d before now after f count next boot k le w =
    let goes : Goes (k.turns + 1) [] before after = goes_on k.turns 1 [] [] before now after k.goes w.goes in
    let of = of_destroy_by d f (first_after f d boot) boot k.of_destroy (first_is d f boot) in
    record {
      turns = k.turns + 1;
      goes = goes;
      counted = omega (arith, le, k.counted);
      rests = λ fresh. rests_on who before now after (k.rests w.fresh) w.share;
      keeps = λ fresh. keeps_on who d (first_after f d boot) after.share.kept of (waits_is (Some who) now.share after.share w.share);
      of_destroy = of;
      found = found_by who d f (first_after f d boot) before.seen now after boot goes.went.seen k.found w (first_is d f boot);
    }

-- what is kept for the pass is what was

rested : (s : CellShare) → s.kept.waits ≡ None → waiting_as None s ≡ s
rested s none = ap (λ (o : Option Who). waiting_as o s) (sym none)

pub share_back : (who : Who) (before now after : DomainPass) → Rests who before now → after.share ≡ waiting_as None now.share → after.share ≡ before.share
share_back who before now after r is = again_waits now.share.kept.waits None before.share now.share after.share r.share is ∙ rested before.share r.at_rest.waits

-- the boot that it carries

get_prefix : (ms more : List (Mark ℕ)) (i : ℕ) (m : Mark ℕ) → slice_get ms i ≡ Some m → slice_get (ms ++ more) i ≡ Some m
get_prefix [] more i m e = cc
get_prefix (k ∷ ms) more zero m e = e
get_prefix (k ∷ ms) more (suc i) m e = get_prefix ms more i m e

stands_later : (chapter i : ℕ) (admit : Mark ℕ) (mid after : DomainPass) → chapter ≤ mid.seen.chapter → (chapter ≡ mid.seen.chapter → slice_get mid.seen.marks i ≡ Some admit) → Begins rising_number mid.seen after.seen
    → chapter ≡ after.seen.chapter → slice_get after.seen.marks i ≡ Some admit
stands_later chapter i admit mid after le there (inl same) e =
    subst (λ (ms : List (Mark ℕ)). slice_get ms i ≡ Some admit) same.marks.1 (get_prefix mid.seen.marks same.marks.0 i admit (there (e ∙ sym same.chapter)))
stands_later chapter i admit mid after le there (inr later) e = let less = later.chapter in absurd (omega (arith, le, less, e))

let_in_later : (f : First) (chapter : ℕ) (boot : Option ℕ) (admit : Mark ℕ) (before mid after : DomainPass) → WasLetIn f chapter boot admit before mid → Begins rising_number mid.seen after.seen → WasLetIn f chapter boot admit before after
let_in_later f chapter boot admit before mid after h begins = record {
  admitted = h.admitted;
  chapter_is = h.chapter_is;
  since = h.since;
  until = begins_through rising_number no_mark_lowers h.admitted mid.seen after.seen h.until begins;
  there =
      stands_later chapter (length h.admitted.marks) admit mid after
      (subst (λ (c : ℕ). c ≤ mid.seen.chapter) h.chapter_is (begins_chapter rising_number h.admitted mid.seen h.until)) h.there begins;
  carries = h.carries;
}

carries_boot : (d : Call) (f : First) (chapter : ℕ) (boot : Option ℕ) (admit : Mark ℕ) (before now after : DomainPass) → Begins rising_number before.seen now.seen → IsOfDestroy f d → FoundFirst f before.seen now.seen → WasLetIn f chapter boot admit now after
    → CarriesBoot d chapter boot admit before after
carries_boot d first.Now chapter boot admit before now after begins of found h = record {
  found = h.admitted;
  admitted = h.admitted;
  since = begins_through rising_number no_mark_lowers before.seen now.seen h.admitted begins h.since;
  between = begins_itself rising_number h.admitted;
  until = h.until;
  live = sym h.carries;
  at_once = λ other. refl;
  chapter_is = h.chapter_is;
  there = h.there;
}
carries_boot d (first.Boot kept) chapter boot admit before now after begins of (found, since, at) h = record {
  found = found;
  admitted = h.admitted;
  since = since;
  between = begins_through rising_number no_mark_lowers found now.seen h.admitted at.begins h.since;
  until = h.until;
  live = at.live ∙ sym h.carries;
  at_once = λ other. absurd (other of);
  chapter_is = h.chapter_is;
  there = h.there;
}

carries_by : (d : Call) (chapter : ℕ) (boot : Option ℕ) (who : Who) (n m : ℕ) (before after : DomainPass) → n ≡ m → CarriesBoot d chapter boot (mark.Admit n who (job_of d) d boot) before after → CarriesBoot d chapter boot (mark.Admit m who (job_of d) d boot) before after
carries_by d chapter boot who n m before after e h = subst (λ (k : ℕ). CarriesBoot d chapter boot (mark.Admit k who (job_of d) d boot) before after) e h

-- it was done at once

pub none_said : (report now more : List (Ask × Answer)) → now ≡ report → more ≡ [] → now ≡ report ++ more
none_said report now more e none = e ∙ sym (append-nil report) ∙ ap (λ (l : List (Ask × Answer)). report ++ l) (sym none)

pub done_at_once : (who : Who) (d : Call) (before now after : DomainPass) (f : First) (count : ℕ) (report report_now : List (Ask × Answer)) (r : Reply) (place : Front) → LooksOn who d before now f count → report_now ≡ report → IsDoneAtOnce who d f now after r place
    → IsDone who d before after report report_now r place
done_at_once who d before now after f count report report_now r place k same h =
    let number : now.number ≡ before.number = k.goes.went.same.number in
    record {
      turns = k.turns + 1;
      chapter = h.chapter;
      boot = h.boot;
      asks = h.asks;
      answers = h.answers;
      events = h.events;
      goes =
          subst (λ (n : ℕ). Goes (k.turns + 1) (tagged h.chapter (mark.Admit n who (job_of d) d h.boot ∷ mark.Done n who d h.boot h.asks h.answers r h.events ∷ [])) before after) number
          (goes_on k.turns 1 [] (tagged h.chapter (mark.Admit now.number who (job_of d) d h.boot ∷ mark.Done now.number who d h.boot h.asks h.answers r h.events ∷ [])) before now after k.goes h.goes);
      reported = none_said report report_now (told h.asks h.answers) same h.none_told;
      share = share_back who before now after (k.rests h.fresh) h.share;
      placed = subst (λ (n : ℕ). IsPlaced place h.chapter (mark.Done n who d h.boot h.asks h.answers r h.events) after) number h.placed;
      carries =
          carries_by d h.chapter h.boot who now.number before.number before after number
          (carries_boot d f h.chapter h.boot (mark.Admit now.number who (job_of d) d h.boot) before now after k.goes.went.seen k.of_destroy k.found h.let_in);
    }

-- it asked until it was done

pub some_chapter : (a b : ℕ) → Some a ≡ Some b → a ≡ b
some_chapter a b e = cc

done_is : (n m : ℕ) (j k : OpenJob) (who : Who) (d : Call) (boot : Option ℕ) (asks : List Ask) (answers : List Answer) (r : Reply) (events : List Transition) → n ≡ m → j ≡ k → k.who ≡ who → k.call ≡ d → k.boot ≡ boot
    → mark.Done n j.who j.call j.boot asks answers r events ≡ mark.Done m who d boot asks answers r events
done_is n m j k who d boot asks answers r events a b f g h = cc

cell_is : (s t : CellShare) → t.kept.waits ≡ None → t.kept.call ≡ s.kept.call → t.kept.operation ≡ s.kept.operation → t.kept.registrations ≡ s.kept.registrations → t.kept.ears ≡ s.kept.ears → t.monitor ≡ s.monitor → t.chapter ≡ s.chapter
    → t ≡ waiting_as None s
cell_is s t a b c d e f g = λ i. record { kept = record { waits = a i; call = b i; operation = c i; registrations = d i; ears = e i }; monitor = f i; chapter = g i }

closed_back : (before after : DomainPass) → IsClosed before → IsClosed after → after.share.kept.waits ≡ None → RestStays before.share.kept after.share.kept → after.share ≡ waiting_as None before.share
closed_back before after was now waits rest =
    cell_is before.share after.share waits (now.call ∙ sym was.call) rest.operation rest.registrations rest.ears (now.monitor ∙ sym was.monitor) (now.chapter ∙ sym was.chapter)

rest_through : (s t u : Share) → RestStays s t → AsideStays t u → u.operation ≡ t.operation → RestStays s u
rest_through s t u p q same = record { operation = same ∙ p.operation; registrations = q.registrations ∙ p.registrations; ears = q.ears ∙ p.ears }

pub heard_all : (was heard more : List (Ask × Answer)) → was ≡ [] → heard ≡ was ++ more → heard ≡ more
heard_all was heard more none e = e ∙ ap (λ (l : List (Ask × Answer)). l ++ more) none

pub done_then : (who : Who) (d : Call) (before now mid after : DomainPass) (f : First) (count : ℕ) (report report_now : List (Ask × Answer)) (x : Ask) (sent : Bool) (r : Reply) (place : Front) → LooksOn who d before now f count → IsAwayNow who d f now mid x sent
    → (more : List (Ask × Answer)) × (report_now ≡ report ++ more) × IsFinished mid after more r place → IsDone who d before after report report_now r place
done_then who d before now mid after f count report report_now x sent r place k h (more, said, g) =
    let number : now.number ≡ before.number = k.goes.went.same.number in
    let by = g.by in
    let same : g.call ≡ h.call = some_call g.call h.call (sym by.was_open ∙ h.is_open) in
    let in_one : by.chapter ≡ h.chapter = some_chapter by.chapter h.chapter (sym by.in_chapter ∙ h.in_chapter) in
    let job : g.call.job ≡ job_let_in now.number who d h.boot = ap (λ (c : OpenCall). c.job) same ∙ h.job in
    let done : mark.Done mid.number g.call.job.who g.call.job.call g.call.job.boot g.asks g.answers r g.events ≡ mark.Done now.number who d h.boot g.asks g.answers r g.events =
    done_is mid.number now.number g.call.job (job_let_in now.number who d h.boot) who d h.boot g.asks g.answers r g.events h.goes.went.same.number job refl refl refl in
    let last : Goes by.turns (tagged h.chapter (mark.Done now.number who d h.boot g.asks g.answers r g.events ∷ [])) mid after =
    subst (λ (c : ℕ). Goes by.turns (tagged c (mark.Done now.number who d h.boot g.asks g.answers r g.events ∷ [])) mid after) in_one
    (subst (λ (m : Mark ℕ). Goes by.turns (tagged by.chapter (m ∷ [])) mid after) done by.goes) in
    let both : Goes (1 + by.turns) (tagged h.chapter (mark.Admit now.number who (job_of d) d h.boot ∷ mark.Done now.number who d h.boot g.asks g.answers r g.events ∷ [])) now after =
    goes_on 1 by.turns (tagged h.chapter (mark.Admit now.number who (job_of d) d h.boot ∷ [])) (tagged h.chapter (mark.Done now.number who d h.boot g.asks g.answers r g.events ∷ [])) now mid after h.goes last in
    record {
      turns = k.turns + (1 + by.turns);
      chapter = h.chapter;
      boot = h.boot;
      asks = g.asks;
      answers = g.answers;
      events = g.events;
      goes =
          subst (λ (n : ℕ). Goes (k.turns + (1 + by.turns)) (tagged h.chapter (mark.Admit n who (job_of d) d h.boot ∷ mark.Done n who d h.boot g.asks g.answers r g.events ∷ [])) before after) number
          (goes_on k.turns (1 + by.turns) [] (tagged h.chapter (mark.Admit now.number who (job_of d) d h.boot ∷ mark.Done now.number who d h.boot g.asks g.answers r g.events ∷ [])) before now after k.goes both);
      reported =
          said ∙ ap (λ (l : List (Ask × Answer)). report ++ l)
          (sym (heard_all (told g.call.asks g.call.answers) (told g.asks g.answers) more (ap (λ (c : OpenCall). told c.asks c.answers) same ∙ h.none_told) by.heard));
      share =
          share_back who before now after (k.rests h.fresh)
          (closed_back now after h.was_closed by.closed (by.aside.waits ∙ h.waits) (rest_through now.share.kept mid.share.kept after.share.kept h.rest by.aside g.operation));
      placed =
          subst (λ (n : ℕ). IsPlaced place h.chapter (mark.Done n who d h.boot g.asks g.answers r g.events) after) number
          (subst (λ (c : ℕ). IsPlaced place c (mark.Done now.number who d h.boot g.asks g.answers r g.events) after) in_one
          (subst (λ (m : Mark ℕ). IsPlaced place by.chapter m after) done by.placed));
      carries =
          carries_by d h.chapter h.boot who now.number before.number before after number
          (carries_boot d f h.chapter h.boot (mark.Admit now.number who (job_of d) d h.boot) before now after k.goes.went.seen k.of_destroy k.found
          (let_in_later f h.chapter h.boot (mark.Admit now.number who (job_of d) d h.boot) now mid after h.let_in last.went.seen));
    }

-- it asked, and then no ticket was left

pub spent_away : (who : Who) (d : Call) (before now mid after : DomainPass) (f : First) (count : ℕ) (report report_now : List (Ask × Answer)) (x : Ask) (sent : Bool) → LooksOn who d before now f count → IsAwayNow who d f now mid x sent
    → (more : List (Ask × Answer)) × (asked : Ask) × (a : Answer) × (last : DomainPass) × IsStillAway mid last more × IsAsked last asked × (report_now ≡ report ++ (more ++ told (asked ∷ []) (a ∷ []))) × IsSpent last after
    → IsSpentAway who d before after report report_now
spent_away who d before now mid after f count report report_now x sent k h (more, asked, a, last, still, is_asked, said, spent) =
    let number : now.number ≡ before.number = k.goes.went.same.number in
    let same : still.was ≡ h.call = some_call still.was h.call (sym still.was_open ∙ h.is_open) in
    let both : Goes (1 + still.turns) (tagged h.chapter (mark.Admit now.number who (job_of d) d h.boot ∷ [])) now last =
    goes_on 1 still.turns (tagged h.chapter (mark.Admit now.number who (job_of d) d h.boot ∷ [])) [] now mid last h.goes still.goes in
    let heard : told still.call.asks still.call.answers ≡ more =
    heard_all (told still.was.asks still.was.answers) (told still.call.asks still.call.answers) more (ap (λ (c : OpenCall). told c.asks c.answers) same ∙ h.none_told) still.heard in
    record {
      turns = k.turns + (1 + still.turns);
      chapter = h.chapter;
      boot = h.boot;
      last = last;
      goes =
          subst (λ (n : ℕ). Goes (k.turns + (1 + still.turns)) (tagged h.chapter (mark.Admit n who (job_of d) d h.boot ∷ [])) before last) number
          (goes_on k.turns (1 + still.turns) [] (tagged h.chapter (mark.Admit now.number who (job_of d) d h.boot ∷ [])) before now last k.goes both);
      call = still.call;
      is_open = still.is_open;
      job = still.job ∙ ap (λ (c : OpenCall). c.job) same ∙ h.job ∙ ap (λ (n : ℕ). job_let_in n who d h.boot) number;
      asked = asked;
      answer = a;
      asks = is_asked;
      reported = said ∙ ap (λ (l : List (Ask × Answer)). report ++ (l ++ told (asked ∷ []) (a ∷ []))) (sym heard);
      carries =
          carries_by d h.chapter h.boot who now.number before.number before last number
          (carries_boot d f h.chapter h.boot (mark.Admit now.number who (job_of d) d h.boot) before now last k.goes.went.seen k.of_destroy k.found
          (let_in_later f h.chapter h.boot (mark.Admit now.number who (job_of d) d h.boot) now mid last h.let_in still.goes.went.seen));
      spent = spent;
    }

-- it was refused

refused_with : (why : RefusalCode) (jobs : HeldJobs) (who : Who) (d : Call) (before now after : DomainPass) (f : First) (count : ℕ) (report report_now : List (Ask × Answer)) (r : Reply) (place : Front) (k : LooksOn who d before now f count) → report_now ≡ report
    → IsRefusedNow why jobs who d now after place → r ≡ excluded_reply why jobs → (h : IsRefusedSo why who d before after report report_now r place) × (h.turns ≡ k.turns + 1)
refused_with why jobs who d before now after f count report report_now r place k same h reply =
    let number : now.number ≡ before.number = k.goes.went.same.number in (
      record {
        turns = k.turns + 1;
        chapter = h.chapter;
        held = jobs;
        goes =
            subst (λ (n : ℕ). Goes (k.turns + 1) (tagged h.chapter (mark.Refused n who d why jobs ∷ [])) before after) number
            (goes_on k.turns 1 [] (tagged h.chapter (mark.Refused now.number who d why jobs ∷ [])) before now after k.goes h.goes);
        told = reply;
        reported = same;
        share = share_back who before now after (k.rests h.fresh) h.share;
        placed = subst (λ (n : ℕ). IsPlaced place h.chapter (mark.Refused n who d why jobs) after) number h.placed;
      },
      refl,
    )

pub refused_so : (why : RefusalCode) (jobs : HeldJobs) (who : Who) (d : Call) (before now after : DomainPass) (f : First) (count : ℕ) (report report_now : List (Ask × Answer)) (r : Reply) (place : Front) → LooksOn who d before now f count → report_now ≡ report
    → IsRefusedNow why jobs who d now after place → r ≡ excluded_reply why jobs → IsRefusedSo why who d before after report report_now r place
refused_so why jobs who d before now after f count report report_now r place k same h reply = (refused_with why jobs who d before now after f count report report_now r place k same h reply).0

pub timed_out : (jobs : HeldJobs) (who : Who) (d : Call) (before now after : DomainPass) (f : First) (count next : ℕ) (report report_now : List (Ask × Answer)) (r : Reply) (place : Front) → LooksOn who d before now f count → next ≤ count + 1 → 30 ≤ next → report_now ≡ report
    → IsRefusedNow code.OperationTimeout jobs who d now after place → r ≡ excluded_reply code.OperationTimeout jobs → IsTimedOut who d before after report report_now r place
timed_out jobs who d before now after f count next report report_now r place k le enough same h reply =
    let (refused, turns) = refused_with code.OperationTimeout jobs who d before now after f count report report_now r place k same h reply in
    let counted = k.counted in
    record { refused = refused; turns = omega (arith, counted, le, enough, turns) }

-- nothing is left of it

pub left_undone : (who : Who) (d : Call) (before now after : DomainPass) (f : First) (count : ℕ) (report report_now : List (Ask × Answer)) → LooksOn who d before now f count → report_now ≡ report → IsLeftNow now after → IsLeftUndone before after report report_now
left_undone who d before now after f count report report_now k same h = record {
  turns = k.turns + 1;
  goes = goes_on k.turns 1 [] [] before now after k.goes h.goes;
  reported = same;
  share = share_back who before now after (k.rests h.fresh) h.share;
}

pub undone_at_once : (pass : DomainPass) (report : List (Ask × Answer)) → IsLeftUndone pass pass report report
undone_at_once pass report = record { turns = 0; goes = goes_nowhere pass; reported = refl; share = refl }

pub spent_waiting : (who : Who) (d : Call) (before now after : DomainPass) (f : First) (count : ℕ) (report report_now : List (Ask × Answer)) → LooksOn who d before now f count → report_now ≡ report → IsSpent now after → IsSpentWaiting before after report report_now
spent_waiting who d before now after f count report report_now k same spent = record { turns = k.turns; last = now; goes = k.goes; reported = same; spent = spent }

-- as its calls show it

pub looks_again : (who : Who) (d : Call) (before now after rested : DomainPass) (f later : First) (count next : ℕ) (boot : Option ℕ) → LooksOn who d before now f count → next ≤ count + 1 → WaitsNow who now after boot → later ≡ first_after f d boot
    → rested ≡ after → LooksOn who d before rested later next
looks_again who d before now after rested f later count next boot k le w first_is_so same =
    subst (λ (p : DomainPass). LooksOn who d before p later next) (sym same)
    (subst (λ (x : First). LooksOn who d before after x next) (sym first_is_so) (looks_on who d before now after f count next boot k le w))

pub ended : (who : Who) (d : Call) (before now mid after : DomainPass) (f : First) (count : ℕ) (report report_now later : List (Ask × Answer)) (x : Ask) (sent : Bool) (r : Called) → LooksOn who d before now f count → report_now ≡ report → IsAwayNow who d f now mid x sent
    → HasEnded mid after report_now later r → HasCalled who d before after report later r
ended who d before now mid after f count report report_now later x sent (called.Done r place) k same h (more, said, g) =
    done_then who d before now mid after f count report later x sent r place k h (more, said ∙ ap (λ (l : List (Ask × Answer)). l ++ more) same, g)
ended who d before now mid after f count report report_now later x sent called.SpentAway k same h (more, asked, a, last, still, is_asked, said, spent) =
    spent_away who d before now mid after f count report later x sent k h
    (more, asked, a, last, still, is_asked, said ∙ ap (λ (l : List (Ask × Answer)). l ++ (more ++ told (asked ∷ []) (a ∷ []))) same, spent)
ended who d before now mid after f count report report_now later x sent (called.TimedOut r place) k same h e = absurd e
ended who d before now mid after f count report report_now later x sent (called.WaitersFull r place) k same h e = absurd e
ended who d before now mid after f count report report_now later x sent called.NoMemory k same h e = absurd e
ended who d before now mid after f count report report_now later x sent called.Spent k same h e = absurd e

-- the record of jobs that the reply names is that of the mark
abbrev pub GaveUpSo : JobRecord → Who → Call → DomainPass → DomainPass → Front → ℕ → Type 0
GaveUpSo held who d now after place turns =
    (jobs : HeldJobs) × IsRefusedNow code.OperationTimeout jobs who d now after place × (jobs.active ≡ held.active) × (jobs.op ≡ held.op) × (30 ≤ turns)

pub gave_up : (held : JobRecord) (who : Who) (d : Call) (before now after : DomainPass) (f : First) (count next : ℕ) (report report_now : List (Ask × Answer)) (r : Reply) (place : Front) → LooksOn who d before now f count → next ≤ count + 1
    → report_now ≡ report → GaveUpSo held who d now after place next → IsExcludedReply code.OperationTimeout held.active held.op r → IsTimedOut who d before after report report_now r place
gave_up held who d before now after f count next report report_now r place k le same (jobs, refused, active, op, enough) reply =
    timed_out jobs who d before now after f count next report report_now r place k le enough same refused (reply jobs active op)

pub waiters_full : (held : JobRecord) (who : Who) (d : Call) (before now after : DomainPass) (f : First) (count : ℕ) (report report_now : List (Ask × Answer)) (r : Reply) (place : Front) → LooksOn who d before now f count → report_now ≡ report
    → (jobs : HeldJobs) × IsRefusedNow code.TooManyWaiting jobs who d now after place → IsExcludedReply code.TooManyWaiting held.active held.op r → IsRefusedSo code.TooManyWaiting who d before after report report_now r place
waiters_full held who d before now after f count report report_now r place k same (jobs, refused) reply =
    refused_so code.TooManyWaiting jobs who d before now after f count report report_now r place k same refused (reply (record { active = held.active; op = held.op; waiting = [] }) refl refl)

-- one look more is counted
pub one_more : (count next : ℕ) → next ≡ min (count + 1) 4294967295 → next ≤ count + 1
one_more count next e = subst (λ (n : ℕ). n ≤ count + 1) (sym e) (min-le_left (count + 1) 4294967295)

pub can_end : (who : Who) (d : Call) (before now mid : DomainPass) (f : First) (count : ℕ) (x : Ask) (sent : Bool) → LooksOn who d before now f count → IsAwayNow who d f now mid x sent → mid.share.kept.operation ≡ None
can_end who d before now mid f count x sent k h = h.rest.operation ∙ (free_rests who before now (k.rests h.fresh)).no_operation
