use Rattle.std.proofs.Common.{◌+◌, [], ◌∷◌, arith, slice_range}
use Rattle.reading.proofs.Filling.{data_alone, first_given, front_stop, short_same}
use Rattle.reading.proofs.body.read_head.Goals as goal

pub returns-in-Err-clause-given : goal.returns-in-Err-clause-given
returns-in-Err-clause-given g c = front_stop _ _ c.args.reader.now.place c.in-Err.fault c.read_front.new.front c.args.len _ c.in-Err.ensures.given

pub returns-clause-given : goal.returns-clause-given
returns-clause-given g c =
    let old = c.args.reader.now.place in
    let mid = c.read_front.new.reader.place in
    let s = c.read_block.new.block in
    let e = c.read_block.ensures in
    first_given _ _ _ old mid c.read_block.result c.read_front.new.front (slice_range s.bytes 64 (64 + c.args.len)) c.args.len (s ∷ [])
    (data_alone c.args.len s c.requires.short) (omega (arith, e.size)) (short_same old mid _ c.in-Ok.ensures.reads.place) c.in-Ok.ensures.given e.given
