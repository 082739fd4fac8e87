-- An option that takes one text: what clap is told of it.
use Rattle.std.specs.Prelude.{Some}
use Rattle.clap.specs.Words.{Rule, Text, new_rule}
use Rattle.clap.specs.declared.builder.ArgAction.TheVariants.{Set}

-- an option --id with one value, any text, that need not be given
abbrev pub text_rule : Text → Rule
text_rule id = record (new_rule id) { long = Some id; action = Some Set }
