-- A load in a new boot, and in the one that a guest had.
use Rattle.std.proofs.Common.{◌≡◌, ◌∙◌, Bool, true, false, if◌then◌else◌, List, Option, None, Some, refl, ap, subst, sym}
use Rattle.domain_spec.specs.Types.{Call, Domain, Live, Op, State, Transition}
use Rattle.domain_spec.specs.declared.loaded.Loaded.{Loaded}
use Rattle.domain_spec.specs.declared.step.PhaseStep.{PhaseStep}
use Rattle.domain_spec.specs.CopyResult.{load_done, loaded_active, loaded_new, loaded_with}
use Rattle.domain_spec.specs.PhaseAsks.{loaded_of}
use Rattle.core_rules.specs.declared.ends.PhaseEnd.{PhaseEnd}
use Rattle.save_core.specs.Leaving.{IsLeft}
use Rattle.save_core.specs.Parts.{guest_of, loaded_guest}
use Rattle.save_core.specs.declared.loading.LoadedGuest.{LoadedGuest}

new_of : (b : Bool) (guest : LoadedGuest) (x y : PhaseStep) → None ≡ (if b then None else Some guest) → x ≡ (if b then x else y)
new_of true guest x y e = refl
new_of false guest x y e = cc

active_of : (b : Bool) (one guest : LoadedGuest) (x y : PhaseStep) → Some one ≡ (if b then None else Some guest) → y ≡ (if b then x else y)
active_of true one guest x y e = cc
active_of false one guest x y e = refl

-- nothing is put into a guest: its boot is new
pub new_boot_loaded :
    (d : Domain) (l : Live) (op : Op) (c : Call) (loaded : Loaded) (now : State) (before after : List Transition) (end : PhaseEnd)
    → Some loaded ≡ loaded_of d c → None ≡ loaded_guest op (loaded_of d c)
    → IsLeft (loaded_new d l c loaded) now before after end → IsLeft (load_done d l op c) now before after end
new_boot_loaded d l op c loaded now before after end e f h =
    subst (λ (o : Option Loaded). IsLeft (loaded_with d l op c o) now before after end) e
    (subst (λ (step : PhaseStep). IsLeft step now before after end)
    (new_of op.new_boot _ (loaded_new d l c loaded) (loaded_active d l c loaded) (f ∙ ap (loaded_guest op) (sym e))) h)

same_guest : (b : Bool) (one guest : LoadedGuest) → Some one ≡ (if b then None else Some guest) → one ≡ guest
same_guest true one guest e = cc
same_guest false one guest e = cc

-- something is put into a guest: it keeps its boot
pub boot_kept_loaded :
    (d : Domain) (l : Live) (op : Op) (c : Call) (loaded : Loaded) (one : LoadedGuest) (now : State) (before after : List Transition) (end : PhaseEnd)
    → Some loaded ≡ loaded_of d c → Some one ≡ loaded_guest op (loaded_of d c)
    → (one ≡ guest_of loaded → IsLeft (loaded_active d l c loaded) now before after end)
    → IsLeft (load_done d l op c) now before after end
boot_kept_loaded d l op c loaded one now before after end e f h =
    let g : Some one ≡ loaded_guest op (Some loaded) = f ∙ ap (loaded_guest op) (sym e) in
    subst (λ (o : Option Loaded). IsLeft (loaded_with d l op c o) now before after end) e
    (subst (λ (step : PhaseStep). IsLeft step now before after end)
    (active_of op.new_boot one _ (loaded_new d l c loaded) (loaded_active d l c loaded) g) (h (same_guest op.new_boot one _ g)))
