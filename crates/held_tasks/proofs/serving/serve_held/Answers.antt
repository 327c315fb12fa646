use Rattle.held_tasks.proofs.Results.{now, outcome}
use Rattle.held_tasks.proofs.Rows.{gone, is_of, is_ready, keeps_parts}
use Rattle.held_tasks.proofs.serving.serve_held.Goals as goal

pub returns : goal.returns
returns g c =
    let a = c.args in
    let made = c.hold_and_serve.result in
    let h = c.hold_and_serve.ensures in
    let list = a.cells.now.list in
    let store = a.cells.now.store in
    let domains = a.cells.now.domains.items in
    record {
      course = h;
      outcome = outcome _ _ _ _ _ _ _ _ _ _ _ _ h;
      now = now _ _ _ _ _ _ _ _ _ _ _ _ h;
      gone = gone _ _ _ _ _ _ _ _ _ _ _ _ h;
      parts = keeps_parts _ _ _ _ _ _ _ _ _ _ _ _ h;
      own = is_of _ _ _ _ _ _ list store domains _ _ _ _ _ _ h c.requires.own;
      ready = is_ready _ _ _ _ _ _ _ _ _ _ _ _ h c.requires.ready;
    }
