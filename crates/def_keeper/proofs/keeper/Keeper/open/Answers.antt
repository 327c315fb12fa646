use Rattle.def_map.specs.Map.{found}
use Rattle.def_keeper.proofs.OpenedSo.{settled_at}
use Rattle.def_keeper.proofs.keeper.Keeper.open.Goals as goal

pub adopt-requires-clause-sound : goal.adopt-requires-clause-sound
adopt-requires-clause-sound g c = λ sound. settled_at (g.F.Files.told c.args.files) (g.F.Files.told c.open_in.new.files) (found c.open_in.new.map) c.open_in.new.finds (c.requires.sound sound) c.in-Ok.ensures.ok
