-- Rows of a driver that come back.
use Rattle.std.proofs.Common.{◌<◌, List, arith, length}
use Rattle.std.specs.List.{AllZip}
use Rattle.std.proofs.lemmas.List.Elements.{length_all_zip}
use Rattle.driver_crossing.proofs.Below.driver_close.Parts.{still_whole}
use Rattle.driver_crossing.specs.Below.driver_close.Closed.{IsWhole}
use Rattle.driver_crossing.specs.Below.held_tasks.OfRows.{DriverRow, KeepsParts}

-- rows that keep their parts are as many as before
pub back_some : {G : Type 0} (rows back : List (DriverRow G)) → AllZip KeepsParts rows back → 0 < length rows → 0 < length back
back_some rows back keep some = omega (arith, length_all_zip KeepsParts rows back keep, some)

-- and all, where they were
pub back_whole : {G : Type 0} (rows back : List (DriverRow G)) → AllZip KeepsParts rows back → IsWhole rows → IsWhole back
back_whole rows back keep whole = still_whole rows back keep whole
