use Rattle.std.proofs.lemmas.Result.{IfOk-weaker}
use Rattle.clap.specs.Words.{AddsSubcommand}
use Rattle.offload_words.proofs.commands.with_command.Goals as goal

pub returns : goal.returns
returns c = record { app = IfOk-weaker c.subcommand.result (AddsSubcommand c.args.app c.args.subcommand) _ (λ _ s. s.shape c.requires.local) c.subcommand.ensures }
