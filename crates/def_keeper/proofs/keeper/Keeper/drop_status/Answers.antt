use Rattle.def_map.specs.Map.{found}
use Rattle.def_keeper.proofs.Booting.{dropped_kept}
use Rattle.def_keeper.proofs.keeper.Keeper.drop_status.Goals as goal

pub invariant_of-self : goal.invariant_of-self
invariant_of-self g c = record {
  kept = λ sound. dropped_kept c.args.uuid (g.F.Files.told c.self.inside.files) (g.F.Files.told c.drop_in.new.files) c.drop_in.result c.self.inside.chronicle (found c.self.inside.map) c.self.inside.doubt c.drop_in.ensures.told (c.self.invariant.kept sound);
  map = c.self.invariant.map;
  good = c.self.invariant.good;
}
