use Rattle.std.specs.String.{string_bytes}
use Rattle.device_xml.proofs.KeySets.{one_more_key}
use Rattle.device_xml.proofs.keys.add_key.Goals as goal

pub returns-clause-added : goal.returns-clause-added
returns-clause-added c =
    one_more_key (string_bytes c.args.key) c.args.keys.now c.insert.new.self c.in_ok-insert.ensures.updates
