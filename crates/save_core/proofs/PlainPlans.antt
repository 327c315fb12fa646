-- The plan of every phase but a take that stops the guest is undone in one way.
use Rattle.std.proofs.Common.{◌≡◌, List, refl}
use Rattle.domain_spec.specs.Types.{Answer, Call, Domain, Live, Op, Phase}
use Rattle.domain_spec.specs.Types.phase
use Rattle.domain_spec.specs.Asks.{undone_by}
use Rattle.domain_spec.specs.PhaseAsks.{live_phase_asks, live_phase_plan, live_phase_undo}

pub plain_plan :
    (d : Domain) (l : Live) (op : Op) (c : Call) (answers : List Answer) (p : Phase) → (p ≡ phase.MigrateTake → ⊥)
    → live_phase_plan d l op c answers p ≡ undone_by (live_phase_undo l op p) (live_phase_asks d l op c answers p)
plain_plan d l op c answers phase.Nothing h = refl
plain_plan d l op c answers phase.Make h = refl
plain_plan d l op c answers phase.Run h = refl
plain_plan d l op c answers phase.Load h = refl
plain_plan d l op c answers phase.Copy h = refl
plain_plan d l op c answers phase.Poll h = refl
plain_plan d l op c answers phase.Take h = refl
plain_plan d l op c answers phase.Quit h = refl
plain_plan d l op c answers phase.Cancel h = refl
plain_plan d l op c answers phase.MigrateCopy h = refl
plain_plan d l op c answers phase.MigrateTake h = absurd (h refl)
plain_plan d l op c answers phase.MigrateCancel h = refl
plain_plan d l op c answers phase.MigrateLoad h = refl
plain_plan d l op c answers phase.Resting h = refl
plain_plan d l op c answers phase.MigrateQuit h = refl
plain_plan d l op c answers phase.MigrateBack h = refl
plain_plan d l op c answers phase.MigrateRun h = refl
plain_plan d l op c answers phase.MigrateDrop h = refl
