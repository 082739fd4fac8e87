use Rattle.std.proofs.lemmas.Result.{err_from_is_err_and}
use Rattle.off_io.proofs.Appending.{prefix_more}
use Rattle.off_io.proofs.Owing.{then_err}
use Rattle.check_totals.specs.Lines.{check_lines}
use Rattle.check_command.specs.Checking.{first_line}
use Rattle.check_command.proofs.check.write_lines.Goals as goal

pub returns-in_err-write_first-clause-err : goal.returns-in_err-write_first-clause-err
returns-in_err-write_first-clause-err g c =
    let p = err_from_is_err_and c.from_residual.result c.from_residual.ensures.1 in
    rw p.1 (prefix_more _ _ (first_line c.args.made) (check_lines c.args.totals.now) c.in_err-write_first.ensures.err)

pub returns-clause-err : goal.returns-clause-err
returns-clause-err g c =
    then_err c.write_totals.result _ _ _ (first_line c.args.made) (check_lines c.args.totals.now) c.in_ok-write_first.ensures.ok c.write_totals.ensures.err
