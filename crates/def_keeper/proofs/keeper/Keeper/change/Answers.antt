use Rattle.std.proofs.Common.{subst, sym}
use Rattle.def_keeper.specs.Calls.{HasLeft}
use Rattle.def_keeper.specs.Chapters.{moment_of}
use Rattle.def_map.specs.Map.{found}
use Rattle.def_keeper.specs.Safe.{IsKeptAt}
use Rattle.def_keeper.proofs.Knowing.{at_opened, good_told, safe_after}
use Rattle.def_keeper.proofs.keeper.Keeper.change.Goals as goal

pub invariant_of-self : goal.invariant_of-self
invariant_of-self g c =
    let told = g.F.Files.told c.self.inside.files in
    let now = g.F.Files.told c.change_in.new.files in
    let e = c.change_in.ensures in record {
      kept = λ sound. e.kept (subst (λ h. IsKeptAt told h (found c.self.inside.map) c.self.inside.doubt) (sym c.open_next.ensures) (at_opened told c.self.inside.chronicle c.self.inside.map c.self.inside.doubt (c.self.invariant.kept sound)));
      map = safe_after told now g.number c.args.change c.self.inside.doubt c.self.inside.map c.change_in.new.map (moment_of now) c.self.inside.chronicle c.change_in.new.chronicle c.change_in.result
          (subst (λ h. HasLeft g.number c.args.change c.self.inside.doubt (found c.self.inside.map) (moment_of now) h c.change_in.new.chronicle c.change_in.result) c.open_next.ensures e.marks) e.ok e.err c.self.invariant.map;
      good = good_told (found c.self.inside.map) (found c.change_in.new.map) c.args.change c.change_in.result c.known_change.ensures e.ok e.err c.self.invariant.good;
    }
