use Rattle.std.proofs.Common.{List, ℕ, subst}
use Rattle.std.specs.Prelude.{OnErr}
use Rattle.std.specs.Io.KnownBytes.{Appends}
use Rattle.std.proofs.lemmas.Result.{err_from_is_err_and}
use Rattle.off_io.specs.Content.{AppendsPrefix}
use Rattle.off_io.proofs.Appending.{prefix_more}
use Rattle.off_io.proofs.Owing.{then_err}
use Rattle.frags.specs.PieceList.{bytes_of}
use Rattle.skb.specs.SkbState.{head_bytes}
use Rattle.records.proofs.Slices.{pieces_are}
use Rattle.records.proofs.buffer.write_buffer.Goals as goal

pub returns-in_err-write_all-clause-err : goal.returns-in_err-write_all-clause-err
returns-in_err-write_all-clause-err g c =
    let p = err_from_is_err_and c.from_residual.result c.from_residual.ensures.1 in
    let s = c.args.frame.now in
    rw p.1 (prefix_more _ _ (head_bytes s) (bytes_of s.rest) (subst (AppendsPrefix _ _) c.head.ensures.bytes c.in_err-write_all.ensures.err))

pub returns-clause-err : goal.returns-clause-err
returns-clause-err g c =
    let s = c.args.frame.now in
    then_err c.write_pieces.result _ _ _ (head_bytes s) (bytes_of s.rest) (subst (Appends _ _) c.head.ensures.bytes c.in_ok-write_all.ensures.ok)
    (subst (λ (z : List ℕ). OnErr c.write_pieces.result (AppendsPrefix (g.K.Sink.held c.write_all.new.sink) (g.K.Sink.held c.write_pieces.new.sink) z)) (pieces_are s.rest)
    c.write_pieces.ensures.writes.err)
