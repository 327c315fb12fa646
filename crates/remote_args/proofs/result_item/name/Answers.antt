use Rattle.std.proofs.Common.{◌+◌, ◌≤◌, length, ap, arith}
use Rattle.procedure_spec.proofs.NameParts.{bad_within}
use Rattle.remote_args.proofs.EntryLists.{string_fits}
use Rattle.remote_args.proofs.result_item.name.Goals as goal

pub overflow_add-result : goal.overflow_add-result
overflow_add-result c =
    let here : 4 + length c.in_ok-text.text ≤ length c.args.reader.now.bytes = string_fits _ _ _ c.in_ok-text.ensures.taken in
    omega (arith, here, c.place-place.ensures.fits, c.place-place.ensures.place)

pub overflow_add-result-in-Err-Fault : goal.overflow_add-result-in-Err-Fault
overflow_add-result-in-Err-Fault c =
    let here : 4 + length c.in_ok-text.text ≤ length c.args.reader.now.bytes = string_fits _ _ _ c.in_ok-text.ensures.taken in
    let within : c.in-Err-Fault.bad.at ≤ length c.as_bytes.result.now = bad_within c.as_bytes.result.now c.in-Err-Fault.bad.at (rw c.in-Err-Fault.field-0-is at c.in-Err-Fault.ensures.bad) in
    omega (arith, here, within, ap length c.as_bytes.ensures, c.place-place.ensures.fits, c.place-place.ensures.place)
