use Rattle.virtd.proofs.DemoName.{demo_is_name}
use Rattle.virtd.proofs.demo.demo_name.Goals as goal

pub unreachable-requires : goal.unreachable-requires
unreachable-requires c =
    let text = rw c.as_bytes.ensures.value at c.as_bytes.ensures.utf8 in
    let bad = rw c.in-Err-Fault.field-0-is at c.in-Err-Fault.ensures.bad in
    demo_is_name _ text (rw c.as_bytes.ensures.value at bad)
