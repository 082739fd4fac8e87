use Rattle.command_answers.proofs.PrefixWords.{prefixes_in_plain_words}
use Rattle.command_answers.proofs.laws.prefixes_in_plain_words.Goals as goal

pub returns : goal.returns
returns c = record { law = prefixes_in_plain_words }
