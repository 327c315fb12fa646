use Rattle.text_laws.proofs.again.read_device_reads_back.Goals as goal

pub returns-clause-filled : goal.returns-clause-filled
returns-clause-filled c = λ text d f reads filled.
    c.printed_device_reads_back.ensures f
    (c.filled_device_is_sound.ensures d f (c.read_device_is_sound.ensures text d reads) filled)
