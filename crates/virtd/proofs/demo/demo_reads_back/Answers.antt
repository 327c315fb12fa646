use Rattle.virtd.proofs.DemoSound.{demo_back, demo_sound}
use Rattle.virtd.specs.Demo.{demo_def}
use Rattle.virtd.proofs.demo.demo_reads_back.Goals as goal

pub returns : goal.returns
returns c = demo_back (c.printed_domain_reads_back.ensures demo_def demo_sound)
