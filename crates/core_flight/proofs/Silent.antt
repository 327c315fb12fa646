-- Why a phase tells nothing whose monitor was lost and whose boot lives on.
use Rattle.std.proofs.Common.{◌≡◌, ◌⊎◌, ℕ, inl, inr, List, [], ◌∷◌, Bool, true, false, ◌&&◌, Option, None, Some, if◌then◌else◌, refl, sym, ap, ◌∙◌}
use Rattle.std.specs.List.{list_any}
use Rattle.domain_spec.specs.Types.{Answer, Call, Domain, DomainDef, EndReason, Live, Op, Phase, Refusal, State}
use Rattle.domain_spec.specs.Types.answer
use Rattle.domain_spec.specs.Types.phase
use Rattle.domain_spec.specs.Types.reason
use Rattle.domain_spec.specs.Types.state
use Rattle.domain_spec.specs.declared.open.OpenOperation.{OpenOperation}
use Rattle.domain_spec.specs.declared.step.PhaseStep.{PhaseStep}
use Rattle.domain_spec.specs.Asks.{first_bad, is_lost_answer, is_undone}
use Rattle.domain_spec.specs.CallResult.{ended}
use Rattle.domain_spec.specs.CopyResult.{over}
use Rattle.domain_spec.specs.Fold.{lost_boot}
use Rattle.domain_spec.specs.Phase.{answered_phase, ended_reply, inactive_phase_refused, live_phase_refused, migration_refused, phase_in, phase_of, phase_on, phase_refused, start_failed}
use Rattle.domain_spec.specs.Reading.{carries_ended, is_live, unless_gone_by}
use Rattle.domain_spec.specs.Refusals.{failure_of, monitor_lost}
use Rattle.domain_spec.specs.Types.reply
use Rattle.core_chapter.proofs.Closed.{is_lost_live}
use Rattle.core_flight.specs.Operated.{LostPhaseIsSilent}

-- it tells nothing, or the boot is not live after it
abbrev IsSilent : PhaseStep → ℕ → Type 0
IsSilent p boot = (p.transitions ≡ []) ⊎ (is_live p.state boot ≡ false)

gone_by : (d : Domain) (stored : Option DomainDef) (boot : ℕ) → d.live ≡ None → is_live (unless_gone_by d None stored) boot ≡ false
gone_by d None boot e = refl
gone_by d (Some def) boot e = ap (λ (l : Option Live). is_live (state.Held (record d { live = l })) boot) e

ended_gone : (d : Domain) (l : Live) (why : EndReason) (boot : ℕ) → is_live (ended d l why) boot ≡ false
ended_gone d l why boot = gone_by (record d { live = None; last = Some (l.boot, why) }) d.stored boot refl

start_silent : (d : Domain) (l : Live) (r : Refusal) (boot : ℕ) → IsSilent (start_failed d l r) boot
start_silent d l r boot = inr (ended_gone d l reason.Failed boot)

move_silent : (d : Domain) (l : Live) (op : Op) (r : Refusal) (p : Phase) (boot : ℕ) → IsSilent (migration_refused d l op r p) boot
move_silent d l op r phase.MigrateLoad boot = start_silent d l r boot
move_silent d l op r other boot = inl refl

load_silent : (b : Bool) (d : Domain) (l : Live) (r : Refusal) (boot : ℕ) → IsSilent (if b then start_failed d l r else over (state.Held d) [] (reply.No r)) boot
load_silent true d l r boot = start_silent d l r boot
load_silent false d l r boot = inl refl

live_silent : (d : Domain) (l : Live) (op : Op) (r : Refusal) (p : Phase) (boot : ℕ) → IsSilent (live_phase_refused d l op r p) boot
live_silent d l op r phase.Make boot = start_silent d l r boot
live_silent d l op r phase.Run boot = start_silent d l r boot
live_silent d l op r phase.Load boot = load_silent op.new_boot d l r boot
live_silent d l op r phase.MigrateLoad boot = move_silent d l op r phase.MigrateLoad boot
live_silent d l op r other boot = inl refl

bare_silent : (d : Domain) (op : Op) (r : Refusal) (p : Phase) (boot : ℕ) → IsSilent (inactive_phase_refused d op r p) boot
bare_silent d op r phase.Take boot = inl refl
bare_silent d op r phase.Cancel boot = inl refl
bare_silent d op r other boot = inl refl

refused_silent : (d : Domain) (live : Option Live) (op : Op) (r : Refusal) (boot : ℕ) → IsSilent (phase_refused d live op r) boot
refused_silent d None op r boot = bare_silent d op r op.phase boot
refused_silent d (Some l) op r boot = live_silent d l op r op.phase boot

bad_silent : (b : Bool) (d : Domain) (op : Op) (bad : Answer) (boot : ℕ) → IsSilent (if b then phase_refused d d.live op (failure_of bad) else over (state.Held d) [] (reply.No monitor_lost)) boot
bad_silent true d op bad boot = refused_silent d d.live op (failure_of bad) boot
bad_silent false d op bad boot = inl refl

none_lost : (answers : List Answer) → first_bad answers ≡ None → list_any is_lost_answer answers ≡ false
none_lost [] e = refl
none_lost (answer.Ok v ∷ answers) e = none_lost answers e
none_lost (other ∷ answers) e = cc

not_both : (b : Bool) → b ≡ true → b ≡ false → ⊥
not_both true e f = cc
not_both false e f = cc

answered_silent : (d : Domain) (op : Op) (c : Call) (answers : List Answer) (bad : Option Answer) (boot : ℕ) → first_bad answers ≡ bad → list_any is_lost_answer answers ≡ true → IsSilent (answered_phase d op c answers bad) boot
answered_silent d op c answers None boot e lost = absurd (not_both (list_any is_lost_answer answers) lost (none_lost answers e))
answered_silent d op c answers (Some bad) boot e lost = bad_silent (is_undone bad) d op bad boot

on_silent : (d : Domain) (op : Option Op) (c : Call) (answers : List Answer) (boot : ℕ) → list_any is_lost_answer answers ≡ true → IsSilent (phase_on d op c answers) boot
on_silent d None c answers boot lost = inl refl
on_silent d (Some op) c answers boot lost = answered_silent d op c answers (first_bad answers) boot refl lost

in_silent : (s : State) (c : Call) (answers : List Answer) (boot : ℕ) → list_any is_lost_answer answers ≡ true → IsSilent (phase_in s c answers) boot
in_silent (state.Vacant boots) c answers boot lost = inl refl
in_silent (state.Held d) c answers boot lost = on_silent d d.op c answers boot lost

of_silent : (b : Bool) (s : State) (o : OpenOperation) (answers : List Answer) (boot : ℕ) → list_any is_lost_answer answers ≡ true → IsSilent (if b then over s [] (ended_reply o o.boot answers) else phase_in s o.call answers) boot
of_silent true s o answers boot lost = inl refl
of_silent false s o answers boot lost = in_silent s o.call answers boot lost

some_if : (b c : Bool) (boot k : ℕ) → (if b && c then Some boot else None) ≡ Some k → b ≡ true
some_if true c boot k e = refl
some_if false c boot k e = cc

was_lost : (s : State) (boot : Option ℕ) (answers : List Answer) (k : ℕ) → lost_boot s boot answers ≡ Some k → list_any is_lost_answer answers ≡ true
was_lost s None answers k e = cc
was_lost s (Some boot) answers k e = some_if (list_any is_lost_answer answers) (is_live s boot) boot k e

tells_none : (p : PhaseStep) (boot : ℕ) → IsSilent p boot → is_live p.state boot ≡ true → p.transitions ≡ []
tells_none p boot (inl e) live = e
tells_none p boot (inr gone) live = absurd (not_both (is_live p.state boot) live gone)

pub lost_phase_is_silent : LostPhaseIsSilent
lost_phase_is_silent s o answers boot e =
    tells_none (phase_of s o answers) boot (of_silent (carries_ended s o.boot) s o answers boot (was_lost (phase_of s o answers).state o.boot answers boot e))
    (is_lost_live (phase_of s o answers).state o.boot answers boot e)
