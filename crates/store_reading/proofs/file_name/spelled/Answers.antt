use Rattle.std.proofs.Common.{◌≡◌, true, false, sym, ◌∙◌}
use Rattle.store_reading.proofs.Naming.{not_parsed, spelled_else}
use Rattle.store_reading.proofs.file_name.spelled.Goals as goal

true_false : true ≡ false → ⊥
true_false e = cc

pub returns-then-is_spelled : goal.returns-then-is_spelled
returns-then-is_spelled c = (c.known_uuid.ensures, sym (c.is_spelled.ensures.0 c.if-is_spelled.true))

pub returns-else-is_spelled : goal.returns-else-is_spelled
returns-else-is_spelled c = spelled_else c.args.digits.now c.in-Ok.uuid c.in-Ok.ensures.bytes
    (λ same. true_false (sym (c.is_spelled.ensures.1 same) ∙ c.if-is_spelled.false))

pub returns-in-Err : goal.returns-in-Err
returns-in-Err c = not_parsed c.args.digits.now (λ u is. true_false (sym (c.in-Err.ensures.ok.1 (u, is))))
