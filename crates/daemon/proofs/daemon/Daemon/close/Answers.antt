use Rattle.std.proofs.Common.{List, [], ◌∷◌, ◌++◌, ◌∙◌, ap, subst}
use Rattle.daemon.specs.Closing.{IsEndedWith}
use Rattle.daemon.specs.Daemon.{DaemonView}
use Rattle.driver_service.specs.Below.held_tasks.OfRows.{DriverRow}
use Rattle.daemon.proofs.daemon.Daemon.close.Goals as goal

pub returns : goal.returns
returns g c =
    let rows = c.push.ensures.list ∙ ap (λ (before : List (DriverRow _)). before ++ c.self.inside.row ∷ []) c.self.invariant.3 ∙ ap (λ (d : DaemonView _). d.row ∷ []) c.self.view_is in
    subst (λ (l : List (DriverRow _)). IsEndedWith g.F.Files.told g.K.Opening.sound l c.close.result) rows c.close.ensures
