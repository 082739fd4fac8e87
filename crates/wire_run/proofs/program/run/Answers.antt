use Rattle.std.proofs.Common.{ap, Err}
use Rattle.std.specs.Prelude.{map, string_bytes}
use Rattle.wire_words.specs.Options.{wire_options_of}
use Rattle.wire_run.proofs.Ends.{unread_given, unread_prefix}
use Rattle.wire_run.proofs.program.run.Goals as goal

pub returns-in-Err-clause-given : goal.returns-in-Err-clause-given
returns-in-Err-clause-given g c =
    unread_given (wire_options_of (map string_bytes c.args.words.now)) _ _ _ _ c.refused_words-status.result
    (λ usage. c.in-Err.ensures.no_options (ap Err (c.refused_words-status.ensures.usage usage))) c.refused_words-status.ensures.either

pub returns-in-Err-clause-prefix : goal.returns-in-Err-clause-prefix
returns-in-Err-clause-prefix g c = unread_prefix (wire_options_of (map string_bytes c.args.words.now)) _ _
