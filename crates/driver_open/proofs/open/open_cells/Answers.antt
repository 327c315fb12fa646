use Rattle.std.proofs.Common.{inr, refl}
use Rattle.driver_open.proofs.Firsts.{opened_chapter, opened_marks}
use Rattle.driver_open.proofs.open.open_cells.Goals as goal

pub make_cells-requires-clause-chapter : goal.make_cells-requires-clause-chapter
make_cells-requires-clause-chapter g c = opened_chapter g.F.Files.told c.args.files c.in-Ok.store.finds c.in-Ok.store.domains c.in-Ok.store.keeper c.in-Ok.ensures.ok

pub make_cells-requires-clause-marks : goal.make_cells-requires-clause-marks
make_cells-requires-clause-marks g c = opened_marks g.F.Files.told c.args.files c.in-Ok.store.finds c.in-Ok.store.domains c.in-Ok.store.keeper c.in-Ok.ensures.ok

-- there was no memory for the cells
pub returns-in-Err-make_cells-clause-err : goal.returns-in-Err-make_cells-clause-err
returns-in-Err-make_cells-clause-err g c =
    let store = c.in-Ok.store in
    inr (record {
      memory = refl;
      finds = store.finds;
      domains = store.domains;
      last = store.keeper;
      opened = c.in-Ok.ensures.ok;
      back_is = c.in-Err-make_cells.ensures.back.0;
      safe = c.in-Err-make_cells.ensures.safe;
    })
