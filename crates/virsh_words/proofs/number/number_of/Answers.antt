use Rattle.std.proofs.Common.{rules, ◌≡◌, ap, sym, ◌∙◌, true}
use Rattle.std.specs.Result.{result_ok}
use Rattle.command_spec.specs.Reading.{is_number, number_of}
use Rattle.virsh_words.proofs.Numbers.{parsed, value_short, number_is}
use Rattle.virsh_words.proofs.number.number_of.Goals as goal

pub returns-then-is_number-clause-value : goal.returns-then-is_number-clause-value
returns-then-is_number-clause-value c =
    let word = c.args.word.now in
    let is : is_number c.args.most word ≡ true = sym c.is_number.ensures ∙ c.if-is_number.true in
    c.ok.ensures.value ∙ ap result_ok (parsed c.args.most word c.parse.result c.requires is c.parse.ensures.value.0) ∙ sym (number_is c.args.most word is)

pub returns-then-is_number-clause-within : goal.returns-then-is_number-clause-within
returns-then-is_number-clause-within c =
    let word = c.args.word.now in
    let is : is_number c.args.most word ≡ true = sym c.is_number.ensures ∙ c.if-is_number.true in
    rw (c.ok.ensures.value ∙ ap result_ok (parsed c.args.most word c.parse.result c.requires is c.parse.ensures.value.0)) (value_short c.args.most word is)

pub returns-else-is_number-clause-value : goal.returns-else-is_number-clause-value
unfolding number_of
returns-else-is_number-clause-value c = search rules
