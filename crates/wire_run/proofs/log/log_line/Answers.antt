use Rattle.std.proofs.Common.{ℕ, List, Option, Result, Ok, Err, length, subst, sym}
use Rattle.std.proofs.Math.Seq.{take-length}
use Rattle.std.specs.Prelude.{OnOk, OnErr}
use Rattle.std.specs.Io.KnownBytes.{Appends}
use Rattle.off_io.specs.Content.{AppendsPrefix}
use Rattle.wire_run.proofs.log.log_line.Goals as goal

-- all of the line is a prefix of it
front : {T E : Type 0} (old new : Option (List ℕ)) (line : List ℕ) (r : Result T E) → OnOk r (Appends old new line) → OnErr r (AppendsPrefix old new line) → AppendsPrefix old new line
front old new line (Ok x) whole some = (length line, subst (Appends old new) (sym (take-length line)) whole)
front old new line (Err e) whole some = some

pub returns-clause-prefix : goal.returns-clause-prefix
returns-clause-prefix g c =
    subst (AppendsPrefix _ _) c.as_bytes.ensures.value (front _ _ c.as_bytes.result.now c.write_all.result c.write_all.ensures.ok c.write_all.ensures.err)
