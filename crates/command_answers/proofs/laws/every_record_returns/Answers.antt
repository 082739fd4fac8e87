use Rattle.command_answers.proofs.CheckedWords.{every_record_returns}
use Rattle.command_answers.proofs.laws.every_record_returns.Goals as goal

pub returns : goal.returns
returns c = record { law = every_record_returns }
