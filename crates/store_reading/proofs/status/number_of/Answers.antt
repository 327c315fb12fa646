use Rattle.std.proofs.Common.{◌≡◌, List, ℕ, true, false, Result, Ok, Err, IsUtf8, sym, subst, ◌∙◌}
use Rattle.std.specs.Str.Parse.{ParsesUnsigned}
use Rattle.std.proofs.lemmas.Fmt.{IsAscii-decimal}
use Rattle.std.proofs.lemmas.Str.{IsUtf8-from_ascii}
use Rattle.std.specs.Fmt.{decimal}
use Rattle.store_reading.proofs.Telling.{parsed_else, parsed_none}
use Rattle.store_reading.proofs.status.number_of.Goals as goal

true_false : true ≡ false → ⊥
true_false e = cc

err_ok : {A E : Type 0} (e : E) (n : A) → ◌≡◌ {A = Result A E} (Err e) (Ok n) → ⊥
err_ok e n is = cc

pub returns-in-Err : goal.returns-in-Err
returns-in-Err c n fits is = c.in-Err.ensures.cases.0 (subst IsUtf8 (sym is) (IsUtf8-from_ascii (decimal n) (IsAscii-decimal n fits)))

pub returns-else-tells : goal.returns-else-tells
returns-else-tells c = parsed_else c.args.digits.now c.parse.result c.in-Ok-parse.number c.in-Ok-parse.is (subst (λ (t : List ℕ). ParsesUnsigned 64 10 t c.parse.result) c.in-Ok.ensures.cases.0 c.parse.ensures.value.0)
    (λ told. true_false (sym (c.tells.ensures.1 told) ∙ c.if-tells.false))

pub returns-in-Err-parse : goal.returns-in-Err-parse
returns-in-Err-parse c = parsed_none c.args.digits.now c.parse.result (λ n e. err_ok c.in-Err-parse.field-0 n (sym c.in-Err-parse.is ∙ e)) (subst (λ (t : List ℕ). ParsesUnsigned 64 10 t c.parse.result) c.in-Ok.ensures.cases.0 c.parse.ensures.value.0)
