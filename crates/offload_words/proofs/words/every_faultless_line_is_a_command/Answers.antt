use Rattle.offload_words.proofs.CommandSet.{command_there, texts_right}
use Rattle.offload_words.proofs.words.every_faultless_line_is_a_command.Goals as goal

pub returns : goal.returns
returns c = record { law = λ words e. (command_there words e, texts_right words e) }
