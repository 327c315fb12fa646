-- The turn in which what was heard is told, and the ears are given back.
use Rattle.std.proofs.Common.{◌≡◌, ℕ, ◌==◌, ◌≤◌, List, [], Bool, true, false, Option, None, Some, option_map, if◌then◌else◌, refl, sym, ap, ◌∙◌, subst, arith}
use Rattle.domain_spec.specs.Types.reason
use Rattle.domain_spec.specs.declared.core_step.CoreStep.TheVariants as step
use Rattle.domain_spec.specs.declared.mark.Mark.{Mark}
use Rattle.domain_spec.specs.Cell.{LentEars, OpenCall, Share, ears_of, share_of}
use Rattle.domain_spec.specs.Kept.{told_of as told_ears}
use Rattle.domain_core.specs.Celled.{CellShare, Celled, cell_in, cell_share, chapter_of, monitor_of, standing_in}
use Rattle.domain_core.specs.Meaning.{history_of, meaning}
use Rattle.domain_core.proofs.Changing.{still_turns_change, turns_change}
use Rattle.domain_core.specs.Core.{HasOut}
use Rattle.domain_core.specs.OfTurns.{Turning}
use Rattle.domain_obj.specs.InTurn.{DomainPass, DomainTurn}
use Rattle.domain_obj.specs.Running.{IsLegalHistory}
use Rattle.domain_obj.proofs.Composing.{then_still}
use Rattle.domain_obj.proofs.Entering.{kept_found}
use Rattle.domain_obj.specs.Lending.{IsListening, IsSilentTurn, out_for, with_out}
use Rattle.domain_obj.specs.Telling.{IsTold, IsToldCounted, IsToldIn, TellsIn, marks_of, told_of}
use Rattle.domain_obj.specs.declared.said.Told.{Told}
use Rattle.domain_obj.specs.declared.said.Told.TheVariants as told
use Rattle.domain_obj.proofs.SilentTurns.{ears_share, history_at, share_parts, silent_may_leave, silent_turn}
use Rattle.domain_core.specs.OfTurns.{AreUntold}
use Rattle.monitor_link.specs.Causes.{IsHeardCaused}
use Rattle.monitor_link.specs.declared.link.Heard.{Heard}
use Rattle.monitor_link.specs.declared.link.Heard.TheVariants as heard
use Rattle.outside_spec.specs.Faults.{Rose}
use Rattle.domain_core.specs.OfShares.{EarsTold}
use Rattle.domain_core.proofs.OfShares.{hearings_keep}
use Rattle.turn_cell.specs.Passes.{Enters, left_by}
use Rattle.turn_cell.specs.Turning.{Changes}
use Rattle.domain_core.specs.OfShares.{IsSteady}
use Rattle.domain_core.proofs.OfShares.{others_ask_on}
use Rattle.domain_core.proofs.OfShares.{some_leave_none}

-- the ears that are out

pub has_out : (ears : Option LentEars) (n boot : ℕ) → ears ≡ Some (out_for n boot) → HasOut n boot ears
has_out ears n boot e = subst (λ (x : Option LentEars). HasOut n boot x) (sym e) (refl, refl)

pub are_untold : (ears : Option LentEars) (n boot : ℕ) → ears ≡ Some (out_for n boot) → AreUntold ears boot
are_untold ears n boot e = subst (λ (x : Option LentEars). AreUntold x boot) (sym e) (refl, refl)

if_own : (b : Bool) (x y : LentEars) → (if b then Some x else None) ≡ Some y → Some x ≡ Some y
if_own true x y e = e
if_own false x y e = cc

out_is : (ears : Option LentEars) (n boot : ℕ) → ears_of ears n ≡ Some (out_for n boot) → ears ≡ Some (out_for n boot)
out_is None n boot e = cc
out_is (Some x) n boot e = if_own (x.number == n) x (out_for n boot) e

pub listens_in : (boot : ℕ) (before : DomainPass) (first turn : DomainTurn) → IsListening boot before → Enters meaning before first → turn ≡ first → (cell_in turn.value).ears ≡ Some (out_for turn.pass.number boot)
listens_in boot before first turn listening entered begun =
    let enters : Enters meaning before turn = subst (λ (t : DomainTurn). Enters meaning before t) (sym begun) entered in
    let number : turn.pass.number ≡ before.number = ap (λ (p : DomainPass). p.number) enters.pass in
    out_is (cell_in turn.value).ears turn.pass.number boot
    (ap (λ (s : Share). s.ears) (sym (kept_found before turn enters)) ∙ listening ∙ ap (λ (k : ℕ). Some (out_for k boot)) (sym number))

-- they are out still once they told it
pub told_out : (n boot : ℕ) (t : Option Told) (old new : Celled) → TellsIn n boot t old new → (cell_in old).ears ≡ Some (out_for n boot) → HasOut n boot (cell_in new).ears
told_out n boot None old new h e = has_out (cell_in new).ears n boot (ap (λ (x : Turning). x.cell.ears) h.applies ∙ e)
told_out n boot (Some (told.Event x)) old new h e =
    subst (λ (ears : Option LentEars). HasOut n boot ears) (sym (h.applies.leads.ears ∙ ap (option_map told_ears) e)) (refl, refl)
told_out n boot (Some (told.End why)) old new h e =
    subst (λ (ears : Option LentEars). HasOut n boot ears) (sym (h.applies.leads.ears ∙ ap (option_map told_ears) e)) (refl, refl)

-- it leaves no mark of the pass

tells_change : (n boot : ℕ) (t : Option Told) (old new : Celled) → TellsIn n boot t old new → Changes meaning n [] old new
tells_change n boot None old new h = still_turns_change old new n (ap history_at h.applies) h.others
tells_change n boot (Some (told.Event x)) old new h =
    let s = step.Event boot x in
    let left = marks_of old boot (told.Event x) in
    subst (λ (ms : List (Mark ℕ)). Changes meaning n ms old new) (some_leave_none (cell_in old) s n left tt h.applies.turn) (turns_change old new s n left tt h.applies h.others)
tells_change n boot (Some (told.End why)) old new h =
    let s = step.Exit boot why in
    let left = marks_of old boot (told.End why) in
    subst (λ (ms : List (Mark ℕ)). Changes meaning n ms old new) (some_leave_none (cell_in old) s n left tt h.applies.turn) (turns_change old new s n left tt h.applies h.others)

told_changes : (n boot : ℕ) (t : Option Told) (old new : Celled) → IsToldIn n boot t old new → Changes meaning n [] old new
told_changes n boot t old new h = then_still n [] old h.between new (tells_change n boot t old h.between h.tells) (ap history_at h.back) h.others

-- what is kept for the pass stays, but for its ears

kept_then : (n chapter : ℕ) (old new : Celled) (x : Option LentEars) → share_of (cell_in new) n ≡ record (share_of (cell_in old) n) { ears = x } → new.out ≡ old.out → new.core.turning.chapter ≡ old.core.turning.chapter
    → cell_share new n ≡ with_out (cell_share old n) x
kept_then n chapter old new x kept out same =
    share_parts (with_out (cell_share old n) x) (cell_share new n) kept
    (ap (λ (o : Option OpenCall). monitor_of o new.out) (ap (λ (s : Share). s.call) kept) ∙ ap (λ (y : Option ℕ). monitor_of (share_of (cell_in old) n).call y) out)
    (ap (λ (o : Option OpenCall). chapter_of o new.core.turning.chapter) (ap (λ (s : Share). s.call) kept) ∙ ap (λ (k : ℕ). chapter_of (share_of (cell_in old) n).call k) same)

tells_keep : (n boot : ℕ) (t : Option Told) (old new : Celled) → IsSteady (standing_in old) → TellsIn n boot t old new → (x : Option LentEars) × (cell_share new n ≡ with_out (cell_share old n) x)
tells_keep n boot None old new steady h = (ears_of (cell_in old).ears n, ears_share old new n (cell_in old).ears h.applies h.out)
tells_keep n boot (Some (told.Event x)) old new steady h =
    let s = step.Event boot x in
    let left = marks_of old boot (told.Event x) in
    let keeps : EarsTold (share_of (cell_in old) n) (share_of (cell_in new) n) = hearings_keep (cell_in old) (cell_in new) s n left tt h.applies.turn h.applies.leads (λ m. others_ask_on (cell_in old) (cell_in new) s m left tt h.applies.turn h.applies.leads steady) in
    (option_map told_ears (share_of (cell_in old) n).ears, kept_then n 0 old new (option_map told_ears (share_of (cell_in old) n).ears) keeps h.out h.applies.chapter)
tells_keep n boot (Some (told.End why)) old new steady h =
    let s = step.Exit boot why in
    let left = marks_of old boot (told.End why) in
    let keeps : EarsTold (share_of (cell_in old) n) (share_of (cell_in new) n) = hearings_keep (cell_in old) (cell_in new) s n left tt h.applies.turn h.applies.leads (λ m. others_ask_on (cell_in old) (cell_in new) s m left tt h.applies.turn h.applies.leads steady) in
    (option_map told_ears (share_of (cell_in old) n).ears, kept_then n 0 old new (option_map told_ears (share_of (cell_in old) n).ears) keeps h.out h.applies.chapter)

told_keeps : (n boot : ℕ) (t : Option Told) (old new : Celled) → IsSteady (standing_in old) → IsToldIn n boot t old new → cell_share new n ≡ with_out (cell_share old n) None
told_keeps n boot t old new steady h =
    let kept = tells_keep n boot t old h.between steady h.tells in
    ears_share h.between new n None h.back h.out ∙ ap (λ (s : CellShare). with_out s None) kept.1

-- the turn

pub told_may_leave : (before : DomainPass) (first turn mid now : DomainTurn) (boot : ℕ) (t : Option Told) → Enters meaning before first → turn ≡ first → IsToldIn turn.pass.number boot t turn.value mid.value → mid ≡ record turn { value = mid.value } → now ≡ mid
    → Changes meaning now.pass.number [] now.entry now.value
told_may_leave before first turn mid now boot t entered begun tells same said =
    let enters : Enters meaning before turn = subst (λ (x : DomainTurn). Enters meaning before x) (sym begun) entered in
    silent_may_leave before turn mid now enters (told_changes turn.pass.number boot t turn.value mid.value tells) same said

pub told_turn : (before after : DomainPass) (first turn mid now : DomainTurn) (boot : ℕ) (t : Option Told) → Enters meaning before first → turn ≡ first → IsToldIn turn.pass.number boot t turn.value mid.value → mid ≡ record turn { value = mid.value } → now ≡ mid
    → IsLegalHistory (history_of mid.value) → after ≡ left_by meaning now → IsSilentTurn turn.value mid.value before after
told_turn before after first turn mid now boot t entered begun tells same said legal left =
    silent_turn before after turn mid now (subst (λ (x : DomainTurn). Enters meaning before x) (sym begun) entered) (told_changes turn.pass.number boot t turn.value mid.value tells) same said legal left

pub told_once : (before after : DomainPass) (first turn mid now : DomainTurn) (boot : ℕ) (t : Option Told) → Enters meaning before first → turn ≡ first → IsSteady (standing_in first.value) → IsToldIn turn.pass.number boot t turn.value mid.value
    → mid ≡ record turn { value = mid.value } → now ≡ mid → IsLegalHistory (history_of mid.value) → after ≡ left_by meaning now → IsTold boot t before after
told_once before after first turn mid now boot t entered begun steady tells same said legal left =
    let enters : Enters meaning before turn = subst (λ (x : DomainTurn). Enters meaning before x) (sym begun) entered in
    let steady_now : IsSteady (standing_in turn.value) = subst (λ (x : DomainTurn). IsSteady (standing_in x.value)) (sym begun) steady in
    let number : turn.pass.number ≡ before.number = ap (λ (p : DomainPass). p.number) enters.pass in
    let is : IsToldIn before.number boot t turn.value mid.value = subst (λ (k : ℕ). IsToldIn k boot t turn.value mid.value) number tells in
    let silent = told_turn before after first turn mid now boot t entered begun tells same said legal left in
    record {
      found = turn.value;
      left = mid.value;
      turn = silent;
      told_in = is;
      share = silent.share_is ∙ told_keeps before.number boot t turn.value mid.value steady_now is ∙ ap (λ (s : CellShare). with_out s None) silent.share_was;
    }

-- the causes of what is told

rose_some : (before now : ℕ) → Rose before now → 1 ≤ now
rose_some before now h = grind (arith, h)

pub told_counted : (h : Heard) (ends before now : ℕ) → IsHeardCaused h ends before now → IsToldCounted ends now (told_of h)
told_counted (heard.Event e) ends before now c = tt
told_counted heard.Lost ends before now c = rose_some before now c
told_counted (heard.Ended reason.Lost) ends before now c = tt
told_counted (heard.Ended why) ends before now c = c
told_counted heard.Quiet ends before now c = tt
told_counted heard.NoMemory ends before now c = tt
