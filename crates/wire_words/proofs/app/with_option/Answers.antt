use Rattle.std.proofs.Common.{◌||◌, ◌∙◌, ap₂}
use Rattle.std.proofs.lemmas.Result.{IfOk-weaker}
use Rattle.clap.specs.Words.{AddsArg}
use Rattle.wire_words.proofs.app.with_option.Goals as goal

pub returns : goal.returns
returns c = record {
  app = IfOk-weaker c.arg.result (AddsArg c.args.app c.args.option) _ (λ _ a. a.shape c.requires.option) c.arg.ensures;
  local = IfOk-weaker c.arg.result (AddsArg c.args.app c.args.option) _ (λ _ a. a.globals ∙ ap₂ ◌||◌ c.requires.local c.requires.option) c.arg.ensures;
}
