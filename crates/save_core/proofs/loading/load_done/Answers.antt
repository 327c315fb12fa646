use Rattle.std.proofs.Common.{sym, ◌∙◌, refl}
use Rattle.save_core.specs.Steps.{loaded_now}
use Rattle.save_core.proofs.Both.{under_both, with_both}
use Rattle.save_core.proofs.Loads.{boot_kept_loaded, new_boot_loaded}
use Rattle.save_core.proofs.loading.load_done.Goals as goal

-- nothing was made for the guest, so its boot is new
pub returns-in-None-guest : goal.returns-in-None-guest
returns-in-None-guest c =
    with_both _ _
    (λ l op g h. new_boot_loaded c.args.domain.now l op c.args.call.now (loaded_now c.in-Some.loaded) _ _ _ _ c.in-Some.ensures (sym c.in-None-guest.is ∙ g) h)
    c.requires.guest (c.loaded_new.ensures (loaded_now c.in-Some.loaded) refl)

-- what was made is what the guest gets in the boot that it has
pub returns-in-Some-guest : goal.returns-in-Some-guest
returns-in-Some-guest c =
    with_both _ _
    (λ l op g h. boot_kept_loaded c.args.domain.now l op c.args.call.now (loaded_now c.in-Some.loaded) c.in-Some-guest.guest _ _ _ _ c.in-Some.ensures (sym c.in-Some-guest.is ∙ g) h)
    c.requires.guest (under_both _ _ _ (λ is. c.loaded_active.ensures (loaded_now c.in-Some.loaded) is refl))
