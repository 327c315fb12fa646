use Rattle.std.proofs.Common.{rules, ◌≡◌, ◌^◌, ◌<◌, IfSome, ap, sym, ◌∙◌, true}
use Rattle.std.specs.Result.{result_ok}
use Rattle.text_spec.specs.Units.{is_number, number_of}
use Rattle.xml_words.proofs.Numbers.{parsed, value_short, number_is}
use Rattle.xml_words.proofs.number.read_number.Goals as goal

pub returns-then-is_number-clause-value : goal.returns-then-is_number-clause-value
returns-then-is_number-clause-value c =
    let text = c.args.text.now in
    let is : is_number text ≡ true = sym c.is_number.ensures ∙ c.if-is_number.true in
    c.ok.ensures.value ∙ ap result_ok (parsed text c.parse.result is c.parse.ensures.value.0) ∙ sym (number_is text is)

pub returns-then-is_number-clause-within : goal.returns-then-is_number-clause-within
returns-then-is_number-clause-within c =
    let text = c.args.text.now in
    let is : is_number text ≡ true = sym c.is_number.ensures ∙ c.if-is_number.true in
    rw (c.ok.ensures.value ∙ ap result_ok (parsed text c.parse.result is c.parse.ensures.value.0)) (value_short text is)

pub returns-else-is_number-clause-value : goal.returns-else-is_number-clause-value
unfolding number_of
returns-else-is_number-clause-value c = search rules
