use Rattle.std.proofs.Common.{◌∙◌, ap}
use Rattle.clap.specs.Words.{app_of, found_of, is_simple_and_free, rows_of}
use Rattle.wire_words.proofs.Lines.{of_err, of_ok, simple_of, wire_is_simple}
use Rattle.wire_words.proofs.words.parse_by.Goals as goal

pub returns-in-Ok-clause-options : goal.returns-in-Ok-clause-options
returns-in-Ok-clause-options c =
    let a = app_of c.args.app in let free = ap is_simple_and_free c.requires.app ∙ wire_is_simple in
    of_ok a _ (rows_of (found_of c.in-Ok.matches)) c.read_options.result c.requires.app (c.in-Ok.ensures.kinds free) (c.in-Ok.ensures.matches (simple_of a free)).0 c.read_options.ensures.options

pub returns-clause-options : goal.returns-clause-options
returns-clause-options c =
    let a = app_of c.args.app in let free = ap is_simple_and_free c.requires.app ∙ wire_is_simple in
    of_err a _ c.in-Err.error c.requires.app (c.in-Err.ensures.kinds free) (λ e. c.in_default.not-OutOfMemory (c.kind.ensures ∙ e))
