use Rattle.std.proofs.Common.{inl, inr}
use Rattle.virtd.proofs.top.serve_opened.Goals as goal

pub returns-in-Ok-clause-serves : goal.returns-in-Ok-clause-serves
returns-in-Ok-clause-serves g c = inr (record {
  settings = c.in-Ok.field-0;
  configured = c.load_settings.new.files;
  loaded = rw c.in-Ok.is at c.load_settings.ensures.loaded;
  same = c.load_settings.ensures.told;
  then = g.W.World.given c.serve_files-status.new.world;
  back = c.serve_files-status.result.files;
  serves = c.serve_files-status.ensures.serves;
  given_back = c.give_files.ensures;
})
