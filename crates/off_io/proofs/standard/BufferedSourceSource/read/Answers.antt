use Rattle.std.proofs.Common.{◌≡◌, ◌∙◌, subst, ap, arith, length, take}
use Rattle.std.proofs.lemmas.List.{take-take}
use Rattle.std.specs.Io.Buffered.{reader_buffer, reader_remaining}
use Rattle.std.specs.Io.KnownBytes.{Consumes}
use Rattle.std.specs.declared.alloc.Global.{Global}
use Rattle.std.specs.declared.io.buffered.BufReader.{BufReader}
use Rattle.off_io.specs.Edge.{Counting}
use Rattle.off_io.proofs.Buffering.{buffered}
use Rattle.off_io.proofs.standard.BufferedSourceSource.read.Goals as goal

pub returns-then-count-ahead-clause-bytes : goal.returns-then-count-ahead-clause-bytes
returns-then-count-ahead-clause-bytes g c =
    let reader = c.self.inside.inner in
    let n = length c.args.into.now in
    let e = c.consume.ensures in
    let given : c.copy_from_slice.new.self ≡ take n (reader_buffer reader) = rw (← c.buffer-ahead.ensures) c.copy_from_slice.ensures.after in
    let front : take n c.copy_from_slice.new.self ≡ take n (reader_buffer reader) = ap (take n) given ∙ take-take n n (reader_buffer reader) (omega arith) in
    let all : Consumes (reader_remaining g.R.Read.remaining reader) (reader_remaining g.R.Read.remaining c.consume.new.self) (take n c.copy_from_slice.new.self) =
    rw (front) (buffered g.R.Read.remaining reader c.consume.new.self n e.capacity e.inner e.buffer) in (
      subst (λ (it : Counting (BufReader g.row.R.Denot Global)). Consumes (reader_remaining g.R.Read.remaining it.inner) (reader_remaining g.R.Read.remaining c.consume.new.self)
          (take n c.copy_from_slice.new.self)) c.self.view_is all,
      λ none some. absurd (omega (arith, none, some, c.copy_from_slice.ensures.len)),
    )
