use Rattle.command_answers.proofs.CheckedWords.{in_plain_words}
use Rattle.command_answers.proofs.laws.answers_in_plain_words.Goals as goal

pub returns : goal.returns
returns g c = record { law = in_plain_words c.made_reads_back.ensures.law }
