-- A phase that was refused leaves what its kind says.
use Rattle.std.proofs.Common.{◌≡◌, ◌∷◌, ◌++◌, ◌∙◌, [], List, Bool, true, false, Option, None, Some, if◌then◌else◌, refl, sym, ap}
use Rattle.std.proofs.lemmas.List.{append-nil}
use Rattle.domain_spec.specs.Types.{Domain, Live, Op, Phase, Refusal, State, Transition}
use Rattle.domain_spec.specs.Types.phase
use Rattle.domain_spec.specs.Types.reason
use Rattle.domain_spec.specs.Types.reply
use Rattle.domain_spec.specs.Types.state
use Rattle.domain_spec.specs.Types.told
use Rattle.domain_spec.specs.CopyResult.{cancels, over}
use Rattle.domain_spec.specs.Exit.{exit_held}
use Rattle.domain_spec.specs.Migration.{rests}
use Rattle.domain_spec.specs.Operation.{led_to}
use Rattle.domain_spec.specs.Phase.{inactive_phase_refused, live_phase_refused, phase_refused, start_failed}
use Rattle.core_rules.specs.declared.refusing.Refused.{Refused}
use Rattle.core_rules.specs.declared.refusing.Refused.TheVariants as so
use Rattle.core_rules.specs.Ends.{gives_up_in, gives_up_on, refused_in, refused_on, rests_in, rests_on, start_failed_in}
use Rattle.core_rules.specs.Led.{led_by, led_in}
use Rattle.core_rules.specs.Refusing.{kind_by, kind_on, kind_on_guest, kind_on_none, refused_kind, refused_so}

gives_up : (d : Domain) (op : Op) (r : Refusal) → d.op ≡ Some op → cancels d op r ≡ gives_up_in (state.Held d) r
unfolding gives_up_in
gives_up d op r e = sym (ap (λ o. gives_up_on d o r) e)

rests_again : (d : Domain) (op : Op) (r : Refusal) → d.op ≡ Some op → rests d op [] (reply.No r) ≡ rests_in (state.Held d) r
unfolding rests_in
rests_again d op r e = sym (ap (λ o. rests_on d o r) e)

led : (d : Domain) (op : Op) → d.op ≡ Some op → over (state.Held d) [] (led_to op) ≡ over (state.Held d) [] (led_in (state.Held d))
unfolding led_in
led d op e = sym (ap (λ o. over (state.Held d) [] (led_by o)) e)

fails : (d : Domain) (l : Live) (r : Refusal) → d.live ≡ Some l → start_failed d l r ≡ start_failed_in (state.Held d) r
fails d l r e = sym (ap (λ live. over (exit_held d live reason.Failed) (told.STOPPED_FAILED ∷ []) (reply.No r)) e)

load :
    (d : Domain) (l : Live) (r : Refusal) (new_boot : Bool) → d.live ≡ Some l
    → (if new_boot then start_failed d l r else over (state.Held d) [] (reply.No r)) ≡ refused_so (if new_boot then so.StartFails else so.Over) (state.Held d) r
load d l r true e = fails d l r e
load d l r false e = refl

on_guest :
    (d : Domain) (l : Live) (op : Op) (r : Refusal) (p : Phase) → d.op ≡ Some op → d.live ≡ Some l
    → live_phase_refused d l op r p ≡ refused_so (kind_on_guest op.new_boot p) (state.Held d) r
on_guest d l op r phase.Nothing o e = refl
on_guest d l op r phase.Make o e = fails d l r e
on_guest d l op r phase.Run o e = fails d l r e
on_guest d l op r phase.Load o e = load d l r op.new_boot e
on_guest d l op r phase.Copy o e = refl
on_guest d l op r phase.Poll o e = gives_up d op r o
on_guest d l op r phase.Take o e = gives_up d op r o
on_guest d l op r phase.Quit o e = gives_up d op r o
on_guest d l op r phase.Cancel o e = led d op o
on_guest d l op r phase.MigrateCopy o e = refl
on_guest d l op r phase.MigrateTake o e = gives_up d op r o
on_guest d l op r phase.MigrateCancel o e = led d op o
on_guest d l op r phase.MigrateLoad o e = fails d l r e
on_guest d l op r phase.Resting o e = refl
on_guest d l op r phase.MigrateQuit o e = rests_again d op r o
on_guest d l op r phase.MigrateBack o e = rests_again d op r o
on_guest d l op r phase.MigrateRun o e = rests_again d op r o
on_guest d l op r phase.MigrateDrop o e = rests_again d op r o

on_none :
    (d : Domain) (op : Op) (r : Refusal) (p : Phase) → d.op ≡ Some op
    → inactive_phase_refused d op r p ≡ refused_so (kind_on_none p) (state.Held d) r
on_none d op r phase.Take o = gives_up d op r o
on_none d op r phase.Cancel o = led d op o
on_none d op r phase.Nothing o = refl
on_none d op r phase.Make o = refl
on_none d op r phase.Run o = refl
on_none d op r phase.Load o = refl
on_none d op r phase.Copy o = refl
on_none d op r phase.Poll o = refl
on_none d op r phase.Quit o = refl
on_none d op r phase.MigrateCopy o = refl
on_none d op r phase.MigrateTake o = refl
on_none d op r phase.MigrateCancel o = refl
on_none d op r phase.MigrateLoad o = refl
on_none d op r phase.Resting o = refl
on_none d op r phase.MigrateQuit o = refl
on_none d op r phase.MigrateBack o = refl
on_none d op r phase.MigrateRun o = refl
on_none d op r phase.MigrateDrop o = refl

on :
    (d : Domain) (live : Option Live) (op : Op) (r : Refusal) → d.op ≡ Some op → d.live ≡ live
    → phase_refused d live op r ≡ refused_so (kind_on live op) (state.Held d) r
on d None op r o e = on_none d op r op.phase o
on d (Some l) op r o e = on_guest d l op r op.phase o e

by_operation : (d : Domain) (o : Option Op) (r : Refusal) → d.op ≡ o → refused_on d o r ≡ refused_so (kind_by d o) (state.Held d) r
by_operation d None r e = refl
by_operation d (Some op) r e = on d d.live op r e refl

pub refused_by_kind : (s : State) (r : Refusal) → refused_in s r ≡ refused_so (refused_kind s) s r
unfolding refused_in refused_kind
refused_by_kind (state.Vacant boots) r = refl
refused_by_kind (state.Held d) r = by_operation d d.op r refl

-- listeners are told nothing of a phase that was refused so
pub quiet : (s : State) (r : Refusal) (k : Refused) (told : List Transition) → k ≡ refused_kind s → (refused_so k s r).transitions ≡ [] → told ≡ told ++ (refused_in s r).transitions
quiet s r k told e nothing =
    let same : (refused_in s r).transitions ≡ [] = ap (λ step. step.transitions) (refused_by_kind s r) ∙ (sym (ap (λ kind. (refused_so kind s r).transitions) e) ∙ nothing) in
    sym (ap (λ events. told ++ events) same ∙ append-nil told)
