use Rattle.offload_c.proofs.Texts.{filters_are_utf8}
use Rattle.offload_c.proofs.options.filter_of.Goals as goal

pub returns-in_default : goal.returns-in_default
returns-in_default c = record { filter = λ filter. c.in_default.ensures.cases.0 (filters_are_utf8 c.args.text.now filter) }
