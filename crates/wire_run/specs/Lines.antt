-- The lines of wire on standard error. Each ends with one line feed. Numbers are decimal, without leading zeros.
use Rattle.std.specs.Prelude.{◌++◌, ℕ, List, codes, decimal}
use Rattle.command_answers.specs.Log.{log_line}
use Rattle.command_answers.specs.declared.status.Status.{Status}
use Rattle.command_answers.specs.declared.status.Status.TheVariants.{Usage}
use Rattle.wire_model.specs.declared.counts.Counts.{Counts}

-- the line of a status: that of offload, but for its own words
abbrev pub usage_line : List ℕ
usage_line = codes "usage: wire [--mss N] [--sums partial|all] [--blocks N] [--summary]\n"

abbrev pub status_line : Status → List ℕ
status_line Usage = usage_line
status_line status = log_line status

-- what was done
unfoldable pub summary_line : Counts → List ℕ
summary_line c = codes "cut " ++ decimal c.cut ++ codes " frames, filled " ++ decimal c.filled ++ codes " sums; left "
    ++ decimal c.wrong ++ codes " wrong sums, " ++ decimal c.long ++ codes " frames above 1514 bytes\n"
