use Rattle.def_map.specs.Map.{found}
use Rattle.def_keeper.proofs.Booting.{status_kept}
use Rattle.def_keeper.proofs.keeper.Keeper.put_status.Goals as goal

pub invariant_of-self : goal.invariant_of-self
invariant_of-self g c = record {
  kept = λ sound. status_kept c.args.status.now c.self.inside.chronicle (found c.self.inside.map) c.self.inside.doubt (g.F.Files.told c.self.inside.files) (g.F.Files.told c.put_in.new.files) c.put_in.result c.put_in.ensures.told (c.self.invariant.kept sound);
  map = c.self.invariant.map;
  good = c.self.invariant.good;
}
