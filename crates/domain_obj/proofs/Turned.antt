-- What one turn leaves of the pass of a call that is not admitted yet.
use Rattle.std.proofs.Common.{◌≡◌, inl, inr, ◌<◌, ◌≤◌, ◌^◌, ℕ, suc, ◌==◌, ◌++◌, List, [], ◌∷◌, length, is_some, Bool, true, false, if◌then◌else◌, Option, None, Some, slice_get, refl, sym, ap, ◌∙◌, subst, arith}
use Rattle.virt_types.specs.Below.types_base.declared.caller.Front.{Front}
use Rattle.history_spec.specs.Begins.{Begins}
use Rattle.history_spec.specs.Chapter.{tagged}
use Rattle.history_spec.specs.Pass.{own}
use Rattle.history_spec.proofs.Beginnings.{begins_through}
use Rattle.domain_spec.specs.Types.{Ask, Call, RefusalCode, Reply, Who}
use Rattle.domain_spec.specs.Types.code
use Rattle.domain_spec.specs.declared.core_step.CoreStep.TheVariants as step
use Rattle.domain_spec.specs.declared.core_step.First.{First}
use Rattle.domain_spec.specs.declared.mark.HeldJobs.{HeldJobs}
use Rattle.domain_spec.specs.declared.mark.Mark.{Mark}
use Rattle.domain_spec.specs.declared.mark.Mark.TheVariants as mark
use Rattle.domain_spec.specs.declared.standing.Standing.{Standing}
use Rattle.domain_spec.specs.Call.{job_of}
use Rattle.domain_spec.specs.Cell.{OpenCall, Share, share_of}
use Rattle.domain_spec.specs.Chapter.{rising_number}
use Rattle.domain_spec.specs.Fold.{at_base}
use Rattle.domain_spec.specs.Laws.{IsCounted}
use Rattle.domain_spec.specs.Open.{IsKnownBoot, job_held, operation_held}
use Rattle.domain_spec.specs.Reading.{boots_of, live_boot}
use Rattle.domain_obj.specs.Asking.{AsksLast}
use Rattle.domain_obj.specs.InTurn.{DomainPass, DomainTurn, GivesUp, IsNotRenewed, IsRenewed, LooksIn}
use Rattle.domain_obj.specs.Placing.{IsLastPlace, IsPlaced}
use Rattle.domain_obj.specs.Running.{DomainHistory, Goes, IsLegalHistory, standing_after}
use Rattle.domain_obj.proofs.Composing.{not_renewed_changes, not_renewed_share, renewed_begins, renewed_share, renewed_then}
use Rattle.domain_obj.proofs.Entering.{awaits_now, kept_found, kept_turn, may_leave, share_found}
use Rattle.domain_obj.proofs.Going.{after_chapter, after_monitor, closed_share}
use Rattle.domain_obj.proofs.Placing.{placed_last}
use Rattle.domain_obj.proofs.Taking.{one_turn}
use Rattle.domain_core.specs.Celled.{CellShare, Celled, KeepsOtherShares, cell_in, cell_share, chapter_of, monitor_of, standing_in}
use Rattle.domain_core.specs.Keeping.{no_mark_lowers}
use Rattle.domain_core.specs.Meaning.{history_of, meaning}
use Rattle.domain_obj.specs.Attempting.{Attempts, Tries, WaitsIn, killed_at_first}
use Rattle.domain_core.specs.Linked.{killed_link}
use Rattle.domain_spec.specs.Types.call
use Rattle.domain_core.specs.Shares.{IsFree, KeepsFirst}
use Rattle.domain_obj.specs.Looking.{MayLook}
use Rattle.domain_obj.specs.Turned.{HasTried, IsAwayNow, IsDoneAtOnce, IsLeftNow, IsReadyToLook, IsRefusedNow, WaitsNow, WasLetIn, job_let_in, waiting_as}
use Rattle.domain_obj.specs.declared.attempting.Attempt.{Attempt}
use Rattle.domain_obj.specs.declared.attempting.Attempt.TheVariants as attempt
use Rattle.domain_obj.proofs.Known.{counted_at, knows_on}
use Rattle.domain_obj.proofs.Letting.{LeavesAway, LeavesDone, admit_of, boot_then, leaves_away, leaves_done}
use Rattle.domain_obj.proofs.Moving.{Adds, gave_up_adds, look_adds, still_history, still_standing}
use Rattle.domain_core.specs.OfTurns.looked_variants as looked
use Rattle.domain_core.specs.declared.ticket.Look.TheVariants as look
use Rattle.domain_core.specs.declared.ticket.Ticket.{Ticket}
use Rattle.job_rules.specs.declared.record.JobRecord.{JobRecord}
use Rattle.domain_core.specs.OfShares.{RestStays}
use Rattle.domain_core.proofs.OfShares.{refusals_keep}
use Rattle.domain_core.proofs.OfShares.{looks_keep}
use Rattle.domain_core.proofs.OfShares.{queues_tell}
use Rattle.turn_cell.specs.Passes.{Enters, left_by}
use Rattle.turn_cell.specs.Turning.{Changes}
use Rattle.turn_cell.proofs.Turning.{has_turned}
use Rattle.domain_core.specs.OfShares.{jobs_in}
use Rattle.domain_core.proofs.OfShares.{looks_leave}
use Rattle.domain_core.proofs.OfShares.{refusals_are_own}
use Rattle.domain_core.specs.OfShares.{whose}

-- a pass takes a turn and leaves it
pub record IsLeft (before after : DomainPass) (turn now : DomainTurn) : Type 0 where
  pub enters : Enters meaning before turn
  pub kept : now ≡ record turn { value = now.value }
  pub legal : IsLegalHistory (history_of now.value)
  pub counted : IsCounted (at_base (cell_in now.value).base)
  pub left : after ≡ left_by meaning now

-- so it had a turn, in which one value became another, with these marks of its own
pub record PassGoes (n : ℕ) (before after : DomainPass) (a new : Celled) (more : List (Mark ℕ)) : Type 0 where
  pub fresh : before.spent ≡ false
  pub number : n ≡ before.number
  pub goes : Goes 1 (tagged new.core.turning.chapter more) before after
  pub share_was : before.share ≡ cell_share a n
  pub share_is : after.share ≡ cell_share new n
  pub since : Begins rising_number before.seen (history_of a)
  pub saw : after.seen ≡ history_of new
  pub counted : IsCounted (at_base (cell_in new).base)

pub pass_goes : (before after : DomainPass) (turn now : DomainTurn) (more : List (Mark ℕ)) → IsLeft before after turn now → Changes meaning turn.pass.number more turn.value now.value → PassGoes turn.pass.number before after turn.value now.value more
pass_goes before after turn now more l change =
    let turned = has_turned meaning before after turn now l.enters l.kept l.left in
    let number : turn.pass.number ≡ before.number = ap (λ (p : DomainPass). p.number) l.enters.pass in
    record {
      fresh = l.enters.fresh;
      number = number;
      goes = one_turn more before after turn now l.enters l.kept change l.legal l.left;
      share_was = sym (share_found before turn l.enters);
      share_is = turned.share ∙ ap (λ (k : ℕ). cell_share now.value k) (sym number);
      since = subst (λ (v : Celled). Begins rising_number before.seen (history_of v)) (sym l.enters.value) l.enters.seen;
      saw = turned.seen;
      counted = l.counted;
    }

-- the share of the pass

share_is : (s t : Share) (waits : Option Who) → t.waits ≡ waits → t.call ≡ s.call → t.operation ≡ s.operation → t.registrations ≡ s.registrations → t.ears ≡ s.ears → t ≡ record s { waits = waits }
share_is s t waits a b c d e = λ i. record { waits = a i; call = b i; operation = c i; registrations = d i; ears = e i }

cell_is : (s t : CellShare) → s.kept ≡ t.kept → s.monitor ≡ t.monitor → s.chapter ≡ t.chapter → s ≡ t
cell_is s t a b c = λ i. record { kept = a i; monitor = b i; chapter = c i }

pub same_but_waits : (s t : Share) (waits : Option Who) → RestStays s t → s.call ≡ None → t.call ≡ None → t.waits ≡ waits → t ≡ record s { waits = waits }
same_but_waits s t waits rest none none_now is = share_is s t waits is (none_now ∙ sym none) rest.operation rest.registrations rest.ears

-- where no call of the number is open before and after, the rest of what its cell keeps stays
pub cell_becomes : (old new : Celled) (n : ℕ) (kept : Share) → (share_of (cell_in old) n).call ≡ None → kept.call ≡ None → share_of (cell_in new) n ≡ kept → cell_share new n ≡ record (cell_share old n) { kept = kept }
cell_becomes old new n kept none none_kept is =
    let none_now : (share_of (cell_in new) n).call ≡ None = ap (λ (s : Share). s.call) is ∙ none_kept in
    cell_is (cell_share new n) (record (cell_share old n) { kept = kept }) is
    (ap (λ (o : Option OpenCall). monitor_of o new.out) none_now ∙ sym (ap (λ (o : Option OpenCall). monitor_of o old.out) none))
    (ap (λ (o : Option OpenCall). chapter_of o new.core.turning.chapter) none_now ∙ sym (ap (λ (o : Option OpenCall). chapter_of o old.core.turning.chapter) none))

-- none of the number was open when it looked
pub none_open : (n : ℕ) (who : Who) (before after : DomainPass) (a old new : Celled) (more : List (Mark ℕ)) → PassGoes n before after a new more → IsRenewed n who a old → before.share.kept.call ≡ None → (share_of (cell_in old) n).call ≡ None
none_open n who before after a old new more goes renewed none = ap (λ (s : CellShare). s.kept.call) (renewed_share n who a old renewed ∙ sym goes.share_was) ∙ none

pub pass_becomes : (n : ℕ) (who : Who) (before after : DomainPass) (a old new : Celled) (more : List (Mark ℕ)) (changed : CellShare → CellShare) → PassGoes n before after a new more → IsRenewed n who a old → cell_share new n ≡ changed (cell_share old n)
    → after.share ≡ changed before.share
pass_becomes n who before after a old new more changed goes renewed is = goes.share_is ∙ is ∙ ap changed (renewed_share n who a old renewed ∙ sym goes.share_was)

pub pass_waits : (n : ℕ) (who : Who) (before after : DomainPass) (a old new : Celled) (more : List (Mark ℕ)) (waits : Option Who) → PassGoes n before after a new more → IsRenewed n who a old → before.share.kept.call ≡ None
    → share_of (cell_in new) n ≡ record (share_of (cell_in old) n) { waits = waits } → after.share ≡ waiting_as waits before.share
pass_waits n who before after a old new more waits goes renewed none is =
    let none_was = none_open n who before after a old new more goes renewed none in
    pass_becomes n who before after a old new more (λ s. waiting_as waits s) goes renewed (cell_becomes old new n (record (share_of (cell_in old) n) { waits = waits }) none_was none_was is)

-- where the Admit is

get_behind : (xs ys : List (Mark ℕ)) (m : Mark ℕ) → slice_get (xs ++ m ∷ ys) (length xs) ≡ Some m
get_behind [] ys m = refl
get_behind (x ∷ xs) ys m =
    let more : length (x ∷ xs) ≡ suc (length xs) = omega arith in ap (λ (i : ℕ). slice_get (x ∷ (xs ++ m ∷ ys)) i) more ∙ get_behind xs ys m

was_let_in : (n : ℕ) (who : Who) (f : First) (before after : DomainPass) (a old new : Celled) (more left rest : List (Mark ℕ)) (admit : Mark ℕ) → PassGoes n before after a new more → IsRenewed n who a old → Adds n old new left → left ≡ admit ∷ rest
    → WasLetIn f new.core.turning.chapter (boot_then f (cell_in old)) admit before after
was_let_in n who f before after a old new more left rest admit goes renewed adds is = record {
  admitted = history_of old;
  chapter_is = sym adds.chapter;
  since = begins_through rising_number no_mark_lowers before.seen (history_of a) (history_of old) goes.since (renewed_begins n who a old renewed);
  until = subst (λ (h : DomainHistory). Begins rising_number (history_of old) h) (sym goes.saw) (inl (record { chapter = sym adds.chapter; base = sym adds.base; marks = (left, sym adds.marks) }));
  there = λ _.
      ap (λ (h : DomainHistory). slice_get h.marks (length (cell_in old).marks)) goes.saw
      ∙ ap (λ (ms : List (Mark ℕ)). slice_get ms (length (cell_in old).marks)) (adds.marks ∙ ap (λ (ms : List (Mark ℕ)). (cell_in old).marks ++ ms) is)
      ∙ get_behind (cell_in old).marks rest admit;
  carries = refl;
}

-- the marks of its own, under the number that the pass had

pub goes_by : (c : ℕ) (before after : DomainPass) (more its : List (Mark ℕ)) → Goes 1 (tagged c more) before after → more ≡ its → Goes 1 (tagged c its) before after
goes_by c before after more its goes is = subst (λ (ms : List (Mark ℕ)). Goes 1 (tagged c ms) before after) is goes

pub goes_with : (n : ℕ) (before after : DomainPass) (a new : Celled) (left : List (Mark ℕ)) (its : ℕ → List (Mark ℕ)) → PassGoes n before after a new (own whose n left) → own whose n left ≡ its n → Goes 1 (tagged new.core.turning.chapter (its before.number)) before after
goes_with n before after a new left its goes own_are =
    subst (λ (k : ℕ). Goes 1 (tagged new.core.turning.chapter (its k)) before after) goes.number (goes_by new.core.turning.chapter before after (own whose n left) (its n) goes.goes own_are)

-- where the last of them is
pub placed_with : (n : ℕ) (before after : DomainPass) (a old new : Celled) (left xs : List (Mark ℕ)) (its : ℕ → Mark ℕ) (place : Front) → PassGoes n before after a new (own whose n left) → Adds n old new left → own whose n left ≡ xs ++ its n ∷ [] → IsLastPlace place new
    → IsPlaced place new.core.turning.chapter (its before.number) after
placed_with n before after a old new left xs its place goes adds own_are at =
    subst (λ (k : ℕ). IsPlaced place new.core.turning.chapter (its k) after) goes.number (placed_last after n new (cell_in old).marks left xs (its n) place goes.saw adds.marks adds.of_pass own_are at)

-- it is done at once

done_now : {G M E Z : Type 0} (n : ℕ) (who : Who) (d : Call) (f : First) (before after : DomainPass) (a old new : Celled) (r : Reply) (place : Front) (h : LooksIn {G = G} {M = M} {E = E} {Z = Z} n who d f old new (look.Done r))
    → PassGoes n before after a new (own whose n h.looks.0) → IsRenewed n who a old → before.share.kept.call ≡ None → IsLastPlace place new → IsDoneAtOnce who d f before after r place
done_now n who d f before after a old new r place h goes renewed none at =
    let left = h.looks.0 in
    let leaves : LeavesDone n who d f r (cell_in old) left = leaves_done n who d f r (cell_in old) left h.looks.1.turn h.looks.2 in
    let adds : Adds n old new left = look_adds n who d f old new left h.looks.1 h.others in
    let keeps = looks_keep old.core.turning new.core.turning n who d f (looked.Done r) h.looks in
    let done = leaves.done in
    let boot = boot_then f (cell_in old) in
    record {
      fresh = goes.fresh;
      chapter = new.core.turning.chapter;
      boot = boot;
      asks = done.asks;
      answers = done.answers;
      events = done.events;
      goes = goes_with n before after a new left (λ k. mark.Admit k who (job_of d) d boot ∷ mark.Done k who d boot done.asks done.answers r done.events ∷ []) goes done.own_are;
      none_told = done.none_told;
      share =
          pass_waits n who before after a old new (own whose n left) None goes renewed none
          (same_but_waits (share_of (cell_in old) n) (share_of (cell_in new) n) None keeps.rest (none_open n who before after a old new (own whose n left) goes renewed none) keeps.call keeps.waits);
      placed = placed_with n before after a old new left (mark.Admit n who (job_of d) d boot ∷ []) (λ k. mark.Done k who d boot done.asks done.answers r done.events) place goes adds done.own_are at;
      let_in =
          subst (λ (k : ℕ). WasLetIn f new.core.turning.chapter boot (mark.Admit k who (job_of d) d boot) before after) goes.number
          (was_let_in n who f before after a old new (own whose n left) left leaves.rest (admit_of n who d f (cell_in old)) goes renewed adds leaves.first_is);
    }

-- it asks

away_now : {G M E Z : Type 0} (n : ℕ) (who : Who) (d : Call) (f : First) (before after : DomainPass) (a old new : Celled) (t : Ticket G M E Z) (x : Ask) (h : LooksIn n who d f old new (look.Away t x))
    → PassGoes n before after a new (own whose n h.looks.0) → IsRenewed n who a old → before.share.kept.call ≡ None → IsAwayNow who d f before after x (is_some t.monitor)
away_now n who d f before after a old new t x h goes renewed none =
    let left = h.looks.0 in
    let leaves : LeavesAway n who d f x (cell_in old) (cell_in new) left = leaves_away n who d f x (cell_in old) (cell_in new) left h.looks.1.turn h.looks.1.leads h.looks.2.0 h.looks.2.1 in
    let adds : Adds n old new left = look_adds n who d f old new left h.looks.1 h.others in
    let keeps = looks_keep old.core.turning new.core.turning n who d f (looked.Away x) h.looks in
    let its = leaves.let_in in
    let boot = boot_then f (cell_in old) in
    let there : after.share.kept.call ≡ Some its.away = ap (λ (s : CellShare). s.kept.call) goes.share_is ∙ its.is_open in
    record {
      fresh = goes.fresh;
      chapter = new.core.turning.chapter;
      boot = boot;
      call = its.away;
      goes = goes_with n before after a new left (λ k. mark.Admit k who (job_of d) d boot ∷ []) goes its.own_are;
      is_open = there;
      job = its.job_is ∙ ap (λ (k : ℕ). job_let_in k who d boot) goes.number;
      none_told = its.none_told;
      away = record {
        last = subst (λ (o : Option OpenCall). AsksLast o x) (sym there) (its.before, its.asks_last);
        awaits = awaits_now (cell_in new) n after.share.kept.call x h.looks.1.leads.away (ap (λ (s : CellShare). s.kept.call) goes.share_is) (subst (λ (o : Option OpenCall). AsksLast o x) (sym there) (its.before, its.asks_last));
        monitor = h.ticket ∙ ap is_some (sym (after_monitor after n new its.away goes.share_is there));
      };
      in_chapter = after_chapter after n new its.away goes.share_is there;
      was_closed = closed_share before n a goes.share_was none;
      waits = ap (λ (s : CellShare). s.kept.waits) goes.share_is ∙ keeps.waits;
      rest =
          subst (λ (s : CellShare). RestStays s.kept after.share.kept) (renewed_share n who a old renewed ∙ sym goes.share_was)
          (subst (λ (s : CellShare). RestStays (share_of (cell_in old) n) s.kept) (sym goes.share_is) keeps.rest);
      let_in =
          subst (λ (k : ℕ). WasLetIn f new.core.turning.chapter boot (mark.Admit k who (job_of d) d boot) before after) goes.number
          (was_let_in n who f before after a old new (own whose n left) left [] (admit_of n who d f (cell_in old)) goes renewed adds leaves.only);
    }

-- it waits

found_boot : (old new : Celled) (boot : Option ℕ) → boot ≡ live_boot (standing_in old).state → history_of new ≡ history_of old → live_boot (standing_in new).state ≡ boot
found_boot old new boot is same = ap (λ (s : Standing). live_boot s.state) (still_standing old new same) ∙ sym is

seen_boot : (after : DomainPass) (new : Celled) (boot : Option ℕ) → after.seen ≡ history_of new → live_boot (standing_in new).state ≡ boot → live_boot (standing_after after.seen).state ≡ boot
seen_boot after new boot saw live = ap (λ (h : DomainHistory). live_boot (standing_after h).state) saw ∙ live

seen_counted : (after : DomainPass) (new : Celled) (boot : Option ℕ) → after.seen ≡ history_of new → live_boot (standing_in new).state ≡ boot → IsCounted (at_base (cell_in new).base) → IsKnownBoot (boots_of (standing_after after.seen).state) boot
seen_counted after new boot saw live counted =
    subst (λ (h : DomainHistory). IsKnownBoot (boots_of (standing_after h).state) boot) (sym saw)
    (subst (λ (b : Option ℕ). IsKnownBoot (boots_of (standing_in new).state) b) live (counted_at (at_base (cell_in new).base) (cell_in new).marks counted))

excluded_share : {G M E Z : Type 0} (n : ℕ) (who : Who) (d : Call) (f : First) (old new : Celled) (held : JobRecord) (boot : Option ℕ) (looks : ℕ) → LooksIn {G = G} {M = M} {E = E} {Z = Z} n who d f old new (look.Excluded held boot looks) → (share_of (cell_in old) n).call ≡ None
    → share_of (cell_in new) n ≡ record (share_of (cell_in old) n) { waits = Some who }
excluded_share n who d f old new held boot looks h none =
    let keeps = looks_keep old.core.turning new.core.turning n who d f (looked.Excluded held boot looks) h.looks in
    same_but_waits (share_of (cell_in old) n) (share_of (cell_in new) n) (Some who) keeps.rest none keeps.call (queues_tell (cell_in old) (cell_in new) n who (looked.Excluded held boot looks) h.queue)

excluded_still : {G M E Z : Type 0} (n : ℕ) (who : Who) (d : Call) (f : First) (old new : Celled) (held : JobRecord) (boot : Option ℕ) (looks : ℕ) → LooksIn {G = G} {M = M} {E = E} {Z = Z} n who d f old new (look.Excluded held boot looks) → history_of new ≡ history_of old
excluded_still n who d f old new held boot looks h = still_history n old new h.looks.0 (look_adds n who d f old new h.looks.0 h.looks.1 h.others) h.looks.2.0

pub none_own : (n : ℕ) (left : List (Mark ℕ)) → left ≡ [] → own whose n left ≡ []
none_own n left none = ap (λ (ms : List (Mark ℕ)). own whose n ms) none

waits_now : {G M E Z : Type 0} (n : ℕ) (who : Who) (d : Call) (f : First) (before after : DomainPass) (a old new : Celled) (held : JobRecord) (boot : Option ℕ) (looks : ℕ) (h : LooksIn {G = G} {M = M} {E = E} {Z = Z} n who d f old new (look.Excluded held boot looks))
    → PassGoes n before after a new (own whose n h.looks.0) → IsRenewed n who a old → before.share.kept.call ≡ None → WaitsNow who before after boot
waits_now n who d f before after a old new held boot looks h goes renewed none =
    let left = h.looks.0 in
    let live : live_boot (standing_in new).state ≡ boot = found_boot old new boot h.looks.2.1.boot_is (excluded_still n who d f old new held boot looks h) in
    record {
      fresh = goes.fresh;
      goes = goes_with n before after a new left (λ k. []) goes (none_own n left h.looks.2.0);
      share =
          pass_waits n who before after a old new (own whose n left) (Some who) goes renewed none
          (excluded_share n who d f old new held boot looks h (none_open n who before after a old new (own whose n left) goes renewed none));
      live = seen_boot after new boot goes.saw live;
      counted = seen_counted after new boot goes.saw live goes.counted;
    }

-- it is refused

pub refused_now : (n : ℕ) (who : Who) (d : Call) (why : RefusalCode) (jobs : HeldJobs) (before after : DomainPass) (a old new : Celled) (left : List (Mark ℕ)) (place : Front) → PassGoes n before after a new (own whose n left) → IsRenewed n who a old → Adds n old new left
    → before.share.kept.call ≡ None → share_of (cell_in new) n ≡ record (share_of (cell_in old) n) { waits = None } → own whose n left ≡ mark.Refused n who d why jobs ∷ [] → IsLastPlace place new → IsRefusedNow why jobs who d before after place
refused_now n who d why jobs before after a old new left place goes renewed adds none share own_are at = record {
  fresh = goes.fresh;
  chapter = new.core.turning.chapter;
  goes = goes_with n before after a new left (λ k. mark.Refused k who d why jobs ∷ []) goes own_are;
  share = pass_waits n who before after a old new (own whose n left) None goes renewed none share;
  placed = placed_with n before after a old new left [] (λ k. mark.Refused k who d why jobs) place goes adds own_are at;
}

-- which change a turn leaves

pub goes_of : (who : Who) (before after : DomainPass) (turn now : DomainTurn) (old : Celled) (left : List (Mark ℕ)) → IsLeft before after turn now → IsRenewed turn.pass.number who turn.value old → Adds turn.pass.number old now.value left
    → PassGoes turn.pass.number before after turn.value now.value (own whose turn.pass.number left)
goes_of who before after turn now old left l renewed adds =
    let n = turn.pass.number in
    pass_goes before after turn now (own whose n left) l (renewed_then n who (own whose n left) turn.value old now.value renewed adds.change adds.chapter)

pub look_change : (n : ℕ) (who : Who) (a old new : Celled) (left : List (Mark ℕ)) → IsRenewed n who a old → Adds n old new left → (more : List (Mark ℕ)) × Changes meaning n more a new
look_change n who a old new left renewed adds = (own whose n left, renewed_then n who (own whose n left) a old new renewed adds.change adds.chapter)

none_adds : {G M E Z : Type 0} (n : ℕ) (who : Who) (d : Call) (f : First) (old new : Celled) (h : LooksIn {G = G} {M = M} {E = E} {Z = Z} n who d f old new look.NoMemory) → Adds n old new h.looks.0
none_adds n who d f old new h = look_adds n who d f old new h.looks.0 h.looks.1 h.others

full_leaves : {G M E Z : Type 0} (n : ℕ) (who : Who) (d : Call) (f : First) (old new : Celled) (waiting : ℕ) → LooksIn {G = G} {M = M} {E = E} {Z = Z} n who d f old new (look.WaitersFull waiting)
    → (left : List (Mark ℕ)) × Adds n old new left × (own whose n left ≡ mark.Refused n who d code.TooManyWaiting (jobs_in (cell_in old)) ∷ [])
full_leaves n who d f old new waiting h =
    let leaves = looks_leave old.core.turning new.core.turning n who d f (looked.WaitersFull waiting) h.looks in
    (leaves.0, look_adds n who d f old new leaves.0 leaves.1 h.others, leaves.2)

pub given_up_after : (n : ℕ) (who : Who) (d : Call) (old mid new : Celled) → history_of mid ≡ history_of old → KeepsOtherShares n old mid → GivesUp n who d mid new
    → (left : List (Mark ℕ)) × Adds n old new left × (own whose n left ≡ mark.Refused n who d code.OperationTimeout (jobs_in (cell_in mid)) ∷ [])
given_up_after n who d old mid new same keeps g =
    let left = g.given_up.0 in (
      left,
      gave_up_adds n who d old mid new left same keeps g.given_up.1 g.others,
      refusals_are_own (cell_in mid) (step.GiveUp n who d) n who d code.OperationTimeout left g.given_up.1.turn g.given_up.2,
    )

given_up_leaves : {G M E Z : Type 0} (n : ℕ) (who : Who) (d : Call) (f : First) (old mid new : Celled) (held : JobRecord) (boot : Option ℕ) (looks : ℕ) → LooksIn {G = G} {M = M} {E = E} {Z = Z} n who d f old mid (look.Excluded held boot looks) → GivesUp n who d mid new
    → (left : List (Mark ℕ)) × Adds n old new left × (own whose n left ≡ mark.Refused n who d code.OperationTimeout (jobs_in (cell_in mid)) ∷ [])
given_up_leaves n who d f old mid new held boot looks h g = given_up_after n who d old mid new (excluded_still n who d f old mid held boot looks h) h.others g

-- a guest that was ended changes nothing else

killed_looks : {G M E Z : Type 0} (n : ℕ) (who : Who) (e : Call) (f : First) (d : Call) (held : JobRecord) (boot : Option ℕ) (looks : ℕ) (old mid : Celled) → LooksIn {G = G} {M = M} {E = E} {Z = Z} n who e f old mid (look.Excluded held boot looks)
    → LooksIn {G = G} {M = M} {E = E} {Z = Z} n who e f old (killed_at_first d looks mid) (look.Excluded held boot looks)
killed_looks {G} {M} {E} {Z} n who e f call.Destroy held boot looks old mid h = by (looks == 1) where
  by : (t : Bool) → LooksIn {G = G} {M = M} {E = E} {Z = Z} n who e f old (if t then record mid { link = killed_link mid.link } else mid) (look.Excluded held boot looks)
  by true = record { looks = h.looks; queue = h.queue; excluded = h.excluded; out = h.out; ticket = h.ticket; others = h.others }
  by false = h
killed_looks {G} {M} {E} {Z} n who e f d held boot looks old mid h = h

looked_then : {G M E Z : Type 0} {n : ℕ} {who : Who} {d : Call} {f : First} {turns : ℕ} {boot : Option ℕ} {old new : Celled} (w : WaitsIn G M E Z n who d f turns boot old new)
    → LooksIn {G = G} {M = M} {E = E} {Z = Z} n who d f old new (look.Excluded w.held boot w.looks)
looked_then {G} {M} {E} {Z} {n} {who} {d} {f} {turns} {boot} {old} {new} w =
    subst (λ (c : Celled). LooksIn {G = G} {M = M} {E = E} {Z = Z} n who d f old c (look.Excluded w.held boot w.looks)) (sym w.killed) (killed_looks n who d f d w.held boot w.looks old w.mid w.looked)

attempts_change : {G M E Z : Type 0} (n : ℕ) (who : Who) (d : Call) (f : First) (turns : ℕ) (a old new : Celled) (r : Attempt G M E Z) → IsRenewed n who a old → Attempts n who d f turns old new r → (more : List (Mark ℕ)) × Changes meaning n more a new
attempts_change n who d f turns a old new (attempt.Done r) renewed h = look_change n who a old new h.looks.0 renewed (look_adds n who d f old new h.looks.0 h.looks.1 h.others)
attempts_change n who d f turns a old new (attempt.Away t x) renewed h = look_change n who a old new h.looks.0 renewed (look_adds n who d f old new h.looks.0 h.looks.1 h.others)
attempts_change n who d f turns a old new (attempt.Waits boot) renewed w = let h = looked_then w in look_change n who a old new h.looks.0 renewed (look_adds n who d f old new h.looks.0 h.looks.1 h.others)
attempts_change n who d f turns a old new (attempt.GaveUp held) renewed (mid, boot, looks, h, g, is_late) =
    let leaves = given_up_leaves n who d f old mid new held boot looks h g in look_change n who a old new leaves.0 renewed leaves.1
attempts_change n who d f turns a old new attempt.WaitersFull renewed (waiting, h) =
    let leaves = full_leaves n who d f old new waiting h in look_change n who a old new leaves.0 renewed leaves.1
attempts_change n who d f turns a old new attempt.NoMemory renewed h = look_change n who a old new h.looks.0 renewed (none_adds n who d f old new h)

pub tries_change : {G M E Z : Type 0} (n : ℕ) (who : Who) (d : Call) (f : First) (turns : ℕ) (a new : Celled) (r : Attempt G M E Z) → Tries n who d f turns a new r → (more : List (Mark ℕ)) × Changes meaning n more a new
tries_change n who d f turns a new (attempt.Done r) (old, renewed, h) = attempts_change n who d f turns a old new (attempt.Done r) renewed h
tries_change n who d f turns a new (attempt.Away t x) (old, renewed, h) = attempts_change n who d f turns a old new (attempt.Away t x) renewed h
tries_change n who d f turns a new (attempt.Waits boot) (old, renewed, h) = attempts_change n who d f turns a old new (attempt.Waits boot) renewed h
tries_change n who d f turns a new (attempt.GaveUp held) (old, renewed, h) = attempts_change n who d f turns a old new (attempt.GaveUp held) renewed h
tries_change n who d f turns a new attempt.WaitersFull (old, renewed, h) = attempts_change n who d f turns a old new attempt.WaitersFull renewed h
tries_change n who d f turns a new attempt.NoMemory (inl h) = ([], not_renewed_changes n who a new h)
tries_change n who d f turns a new attempt.NoMemory (inr (old, renewed, h)) = attempts_change n who d f turns a old new attempt.NoMemory renewed h

-- what became of the call

none_now : {G M E Z : Type 0} (n : ℕ) (who : Who) (d : Call) (f : First) (before after : DomainPass) (a old new : Celled) (h : LooksIn {G = G} {M = M} {E = E} {Z = Z} n who d f old new look.NoMemory)
    → PassGoes n before after a new (own whose n h.looks.0) → IsRenewed n who a old → before.share.kept.call ≡ None → IsLeftNow before after
none_now n who d f before after a old new h goes renewed none =
    let keeps = looks_keep old.core.turning new.core.turning n who d f looked.NoMemory h.looks in
    record {
      fresh = goes.fresh;
      goes = goes_with n before after a new h.looks.0 (λ k. []) goes (none_own n h.looks.0 h.looks.2);
      share =
          pass_waits n who before after a old new (own whose n h.looks.0) None goes renewed none
          (same_but_waits (share_of (cell_in old) n) (share_of (cell_in new) n) None keeps.rest (none_open n who before after a old new (own whose n h.looks.0) goes renewed none) keeps.call (queues_tell (cell_in old) (cell_in new) n who looked.NoMemory h.queue));
    }

-- there was no memory for the next chapter
pub not_renewed_now : (who : Who) (before after : DomainPass) (turn now : DomainTurn) → IsLeft before after turn now → IsNotRenewed turn.pass.number who turn.value now.value → IsLeftNow before after
not_renewed_now who before after turn now l h =
    let n = turn.pass.number in
    let goes = pass_goes before after turn now [] l (not_renewed_changes n who turn.value now.value h) in
    record {
      fresh = goes.fresh;
      goes = goes.goes;
      share = goes.share_is ∙ not_renewed_share n who turn.value now.value h ∙ ap (λ (s : CellShare). waiting_as None s) (sym goes.share_was);
    }

full_share : {G M E Z : Type 0} (n : ℕ) (who : Who) (d : Call) (f : First) (old new : Celled) (waiting : ℕ) → LooksIn {G = G} {M = M} {E = E} {Z = Z} n who d f old new (look.WaitersFull waiting) → (share_of (cell_in old) n).call ≡ None
    → share_of (cell_in new) n ≡ record (share_of (cell_in old) n) { waits = None }
full_share n who d f old new waiting h none =
    let keeps = looks_keep old.core.turning new.core.turning n who d f (looked.WaitersFull waiting) h.looks in
    same_but_waits (share_of (cell_in old) n) (share_of (cell_in new) n) None keeps.rest none keeps.call keeps.waits

pub given_up_waits : (n : ℕ) (who : Who) (d : Call) (old mid new : Celled) → share_of (cell_in mid) n ≡ record (share_of (cell_in old) n) { waits = Some who } → GivesUp n who d mid new
    → share_of (cell_in new) n ≡ record (share_of (cell_in old) n) { waits = None }
given_up_waits n who d old mid new waited g =
    refusals_keep mid.core.turning new.core.turning n who d code.OperationTimeout g.given_up ∙ ap (λ (s : Share). record s { waits = None }) waited

given_up_share : {G M E Z : Type 0} (n : ℕ) (who : Who) (d : Call) (f : First) (old mid new : Celled) (held : JobRecord) (boot : Option ℕ) (looks : ℕ) → LooksIn {G = G} {M = M} {E = E} {Z = Z} n who d f old mid (look.Excluded held boot looks) → GivesUp n who d mid new
    → (share_of (cell_in old) n).call ≡ None → share_of (cell_in new) n ≡ record (share_of (cell_in old) n) { waits = None }
given_up_share n who d f old mid new held boot looks h g none = given_up_waits n who d old mid new (excluded_share n who d f old mid held boot looks h none) g

attempted : {G M E Z : Type 0} (who : Who) (d : Call) (f : First) (turns : ℕ) (before after : DomainPass) (turn now : DomainTurn) (place : Front) (old : Celled) (r : Attempt G M E Z) → IsLeft before after turn now → IsRenewed turn.pass.number who turn.value old
    → Attempts turn.pass.number who d f turns old now.value r → before.share.kept.call ≡ None → IsLastPlace place now.value → HasTried who d f turns before after place r
attempted who d f turns before after turn now place old (attempt.Done r) l renewed h none at =
    let n = turn.pass.number in
    done_now n who d f before after turn.value old now.value r place h (goes_of who before after turn now old h.looks.0 l renewed (look_adds n who d f old now.value h.looks.0 h.looks.1 h.others)) renewed none at
attempted who d f turns before after turn now place old (attempt.Away t x) l renewed h none at =
    let n = turn.pass.number in
    away_now n who d f before after turn.value old now.value t x h (goes_of who before after turn now old h.looks.0 l renewed (look_adds n who d f old now.value h.looks.0 h.looks.1 h.others)) renewed none
attempted who d f turns before after turn now place old (attempt.Waits boot) l renewed w none at =
    let n = turn.pass.number in
    let h = looked_then w in
    waits_now n who d f before after turn.value old now.value w.held boot w.looks h (goes_of who before after turn now old h.looks.0 l renewed (look_adds n who d f old now.value h.looks.0 h.looks.1 h.others)) renewed none
attempted who d f turns before after turn now place old (attempt.GaveUp held) l renewed (mid, boot, looks, h, g, is_late) none at =
    let n = turn.pass.number in
    let leaves = given_up_leaves n who d f old mid now.value held boot looks h g in
    let goes = goes_of who before after turn now old leaves.0 l renewed leaves.1 in
    let same : standing_in mid ≡ standing_in old = still_standing old mid (excluded_still n who d f old mid held boot looks h) in (
      jobs_in (cell_in mid),
      refused_now n who d code.OperationTimeout (jobs_in (cell_in mid)) before after turn.value old now.value leaves.0 place goes renewed leaves.1 none
          (given_up_share n who d f old mid now.value held boot looks h g (none_open n who before after turn.value old now.value (own whose n leaves.0) goes renewed none)) leaves.2 at,
      ap (λ (s : Standing). job_held s.job) same ∙ sym h.looks.2.1.active_is,
      ap (λ (s : Standing). operation_held s.operation) same ∙ sym h.looks.2.1.op_is,
      is_late,
    )
attempted who d f turns before after turn now place old attempt.WaitersFull l renewed (waiting, h) none at =
    let n = turn.pass.number in
    let leaves = full_leaves n who d f old now.value waiting h in
    let goes = goes_of who before after turn now old leaves.0 l renewed leaves.1 in (
      jobs_in (cell_in old),
      refused_now n who d code.TooManyWaiting (jobs_in (cell_in old)) before after turn.value old now.value leaves.0 place goes renewed leaves.1 none
          (full_share n who d f old now.value waiting h (none_open n who before after turn.value old now.value (own whose n leaves.0) goes renewed none)) leaves.2 at,
    )
attempted who d f turns before after turn now place old attempt.NoMemory l renewed h none at =
    let n = turn.pass.number in
    none_now n who d f before after turn.value old now.value h (goes_of who before after turn now old h.looks.0 l renewed (none_adds n who d f old now.value h)) renewed none

pub tried : {G M E Z : Type 0} (who : Who) (d : Call) (f : First) (turns : ℕ) (before after : DomainPass) (turn now : DomainTurn) (place : Front) (r : Attempt G M E Z) → IsLeft before after turn now → Tries turn.pass.number who d f turns turn.value now.value r
    → before.share.kept.call ≡ None → IsLastPlace place now.value → HasTried who d f turns before after place r
tried who d f turns before after turn now place (attempt.Done r) l (old, renewed, h) none at = attempted who d f turns before after turn now place old (attempt.Done r) l renewed h none at
tried who d f turns before after turn now place (attempt.Away t x) l (old, renewed, h) none at = attempted who d f turns before after turn now place old (attempt.Away t x) l renewed h none at
tried who d f turns before after turn now place (attempt.Waits boot) l (old, renewed, h) none at = attempted who d f turns before after turn now place old (attempt.Waits boot) l renewed h none at
tried who d f turns before after turn now place (attempt.GaveUp held) l (old, renewed, h) none at = attempted who d f turns before after turn now place old (attempt.GaveUp held) l renewed h none at
tried who d f turns before after turn now place attempt.WaitersFull l (old, renewed, h) none at = attempted who d f turns before after turn now place old attempt.WaitersFull l renewed h none at
tried who d f turns before after turn now place attempt.NoMemory l (inl h) none at = not_renewed_now who before after turn now l h
tried who d f turns before after turn now place attempt.NoMemory l (inr (old, renewed, h)) none at = attempted who d f turns before after turn now place old attempt.NoMemory l renewed h none at

-- from the calls of a turn

-- a pass that has nothing open has nothing open in its turn
pub free_found : (who : Who) (before : DomainPass) (turn : DomainTurn) → Enters meaning before turn → (before.spent ≡ false → IsFree before.share.kept who) → IsFree (share_of (cell_in turn.value) turn.pass.number) who
free_found who before turn enters free = subst (λ (s : Share). IsFree s who) (kept_found before turn enters) (free enters.fresh)

pub may_enter : (who : Who) (d : Call) (f : First) (before : DomainPass) (turn : DomainTurn) → Enters meaning before turn → IsReadyToLook who d f before → MayLook turn.pass.number who d f turn.value
may_enter who d f before turn enters ready = record {
  free = free_found who before turn enters ready.free;
  keeps = subst (λ (s : Share). KeepsFirst s who d f) (kept_found before turn enters) (ready.keeps enters.fresh);
  known = knows_on f before.seen (history_of turn.value) (subst (λ (v : Celled). Begins rising_number before.seen (history_of v)) (sym enters.value) enters.seen) ready.known;
}

pub chapter_below : (before : DomainPass) (turn : DomainTurn) → Enters meaning before turn → turn.value.core.turning.chapter < 2 ^ 62
chapter_below before turn enters =
    let low : turn.entry.core.turning.chapter ≤ turn.ticket = enters.chapter in
    let high : turn.ticket < 4611686018427387904 = enters.ticket in
    let same : turn.value.core.turning.chapter ≡ turn.entry.core.turning.chapter = ap (λ (v : Celled). v.core.turning.chapter) enters.value in
    omega (arith, low, high, same)

-- a turn may be left after a change, and a few reads of it
pub change_leaves : (before : DomainPass) (turn mid now : DomainTurn) (more : List (Mark ℕ)) → Enters meaning before turn → Changes meaning turn.pass.number more turn.value mid.value → mid ≡ record turn { value = mid.value } → now ≡ mid
    → Changes meaning now.pass.number more now.entry now.value
change_leaves before turn mid now more enters change same told =
    may_leave before turn now more enters (kept_turn turn mid now same told)
    (subst (λ (v : Celled). Changes meaning turn.pass.number more turn.value v) (sym (ap (λ (t : DomainTurn). t.value) told)) change)

pub is_left : (before after : DomainPass) (turn mid now : DomainTurn) → Enters meaning before turn → mid ≡ record turn { value = mid.value } → now ≡ mid → IsLegalHistory (history_of mid.value) → IsCounted (at_base (cell_in mid.value).base) → after ≡ left_by meaning now
    → IsLeft before after turn now
is_left before after turn mid now enters same told legal counted left =
    let value : mid.value ≡ now.value = ap (λ (t : DomainTurn). t.value) (sym told) in
    record {
      enters = enters;
      kept = kept_turn turn mid now same told;
      legal = subst (λ (v : Celled). IsLegalHistory (history_of v)) value legal;
      counted = subst (λ (v : Celled). IsCounted (at_base (cell_in v).base)) value counted;
      left = left;
    }

pub tried_leaves : {G M E Z : Type 0} (who : Who) (d : Call) (f : First) (turns : ℕ) (before : DomainPass) (turn mid now : DomainTurn) (r : Attempt G M E Z) → Enters meaning before turn → Tries turn.pass.number who d f turns turn.value mid.value r
    → mid ≡ record turn { value = mid.value } → now ≡ mid → (more : List (Mark ℕ)) × Changes meaning now.pass.number more now.entry now.value
tried_leaves who d f turns before turn mid now r enters tries same told =
    let change = tries_change turn.pass.number who d f turns turn.value mid.value r tries in (change.0, change_leaves before turn mid now change.0 enters change.1 same told)

pub tried_once : {G M E Z : Type 0} (who : Who) (d : Call) (f : First) (turns : ℕ) (before after : DomainPass) (turn mid now : DomainTurn) (place : Front) (r : Attempt G M E Z) → Enters meaning before turn → IsReadyToLook who d f before
    → Tries turn.pass.number who d f turns turn.value mid.value r → mid ≡ record turn { value = mid.value } → now ≡ mid → IsLastPlace place mid.value → IsLegalHistory (history_of mid.value) → IsCounted (at_base (cell_in mid.value).base)
    → after ≡ left_by meaning now → HasTried who d f turns before after place r
tried_once who d f turns before after turn mid now place r enters ready tries same told at legal counted left =
    let value : mid.value ≡ now.value = ap (λ (t : DomainTurn). t.value) (sym told) in
    tried who d f turns before after turn now place r (is_left before after turn mid now enters same told legal counted left)
    (subst (λ (v : Celled). Tries turn.pass.number who d f turns turn.value v r) value tries) (ready.free enters.fresh).no_call (subst (λ (v : Celled). IsLastPlace place v) value at)
