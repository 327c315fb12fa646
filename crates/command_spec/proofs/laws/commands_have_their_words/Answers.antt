use Rattle.command_spec.proofs.EachWord.{has_its_word}
use Rattle.command_spec.proofs.laws.commands_have_their_words.Goals as goal

pub returns : goal.returns
returns c = has_its_word
