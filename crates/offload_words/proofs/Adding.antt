-- A subcommand with one option more.
use Rattle.std.proofs.Common.{◌≡◌, ◌∙◌, ◌||◌, false, Result, ap, ap₂}
use Rattle.std.specs.Prelude.{IfOk}
use Rattle.std.proofs.lemmas.Result.{IfOk-weaker}
use Rattle.clap.specs.Words.{AddsArg, App, Rule, app_of, rule_of, with_rule}
use Rattle.clap.specs.declared.builder.Arg.{Arg}
use Rattle.clap.specs.declared.builder.Command.{Command}
use Rattle.offload_words.specs.Commands.{has_globals_of}

module _ {E : Type 0} (app : App) (old : Command) (arg : Arg) (local : arg.global ≡ false) (new : Result Command E) (adds : IfOk new (AddsArg old arg)) where
  pub with_option : (rule : Rule) → app_of old ≡ app → rule_of arg ≡ rule → IfOk new (λ c. app_of c ≡ with_rule app rule)
  with_option rule was is = IfOk-weaker new (AddsArg old arg) _ (λ c a. a.shape local ∙ ap (with_rule (app_of old)) is ∙ ap (λ (x : App). with_rule x rule) was) adds

  pub with_local : has_globals_of old ≡ false → IfOk new (λ c. has_globals_of c ≡ false)
  with_local none = IfOk-weaker new (AddsArg old arg) _ (λ c a. a.globals ∙ ap₂ ◌||◌ none local) adds
