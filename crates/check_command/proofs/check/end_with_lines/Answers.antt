use Rattle.std.proofs.Common.{◌++◌}
use Rattle.check_totals.specs.Lines.{check_lines}
use Rattle.check_command.specs.Checking.{first_line}
use Rattle.check_command.proofs.Telling.{lines_flushed}
use Rattle.check_command.proofs.check.end_with_lines.Goals as goal

pub returns-in-Ok-clause-told : goal.returns-in-Ok-clause-told
returns-in-Ok-clause-told g c =
    lines_flushed _ _ _ _ (first_line c.args.made ++ check_lines c.args.totals.now) c.args.status c.finish.result c.in-Ok.ensures.ok c.finish.ensures.content c.finish.ensures.answer
    c.finish.ensures.flushed
