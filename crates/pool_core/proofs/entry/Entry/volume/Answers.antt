use Rattle.std.proofs.Common.{sym, ap, ◌∙◌}
use Rattle.book_spec.specs.declared.pool_book.Pool.{Pool}
use Rattle.book_spec.specs.Volumes.{volume_of}
use Rattle.pool_core.proofs.VolumeSums.{no_volume_seen, volume_seen}
use Rattle.pool_core.proofs.entry.Entry.volume.Goals as goal

pub returns-in-None : goal.returns-in-None
returns-in-None c = sym (ap (λ (p : Pool). volume_of c.args.name.now p.volumes) (sym c.self.view_is) ∙ no_volume_seen c.args.name.now c.as_bytes.result.now c.self.inside.volumes.items c.as_slice.result.now c.place_of_volume.result c.as_bytes.ensures.value c.as_slice.ensures.value c.place_of_volume.ensures c.in-None.is)

pub returns-in-Some : goal.returns-in-Some
returns-in-Some c = sym (ap (λ (p : Pool). volume_of c.args.name.now p.volumes) (sym c.self.view_is) ∙ volume_seen c.args.name.now c.as_bytes.result.now c.self.inside.volumes.items c.as_slice.result.now c.place_of_volume.result c.as_bytes.ensures.value c.as_slice.ensures.value c.place_of_volume.ensures c.in-Some.place c.index.result.now c.in-Some.is c.index.ensures)
