use Rattle.snapshot_xml.proofs.Sound.{read_sound}
use Rattle.snapshot_xml.proofs.laws.read_snapshot_is_sound.Goals as goal

pub returns : goal.returns
returns c = read_sound c.read_is_writable.ensures
