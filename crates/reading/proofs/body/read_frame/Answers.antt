use Rattle.std.proofs.Common.{◌-◌, [], ◌∷◌, ℕ, arith}
use Rattle.reading.proofs.Filling.{data_behind, first_stop, frame_bytes, frame_given, short_same}
use Rattle.reading.proofs.body.read_frame.Goals as goal

pub returns-in-Err-clause-given : goal.returns-in-Err-clause-given
returns-in-Err-clause-given g c =
    first_stop _ _ c.args.reader.now.place c.in-Err.fault c.read_head.new.front c.min-in_head.result c.args.len (c.read_head.new.block ∷ []) _ (omega (arith, c.min-in_head.ensures))
    c.in-Err.ensures.given

pub returns-clause-given : goal.returns-clause-given
returns-clause-given g c =
    let old = c.args.reader.now.place in
    let now = c.read_head.new.reader.place in
    let k : ℕ = c.min-in_head.result in
    let s = c.read_head.new.block in
    let ss = c.read_blocks.new.hold.items in
    let e = c.in-Ok.ensures in
    frame_given _ _ _ old now c.read_blocks.result c.read_head.new.front k c.args.len (c.args.len - k) (s ∷ []) (s ∷ ss) ss
    (data_behind c.args.len k s ss (omega (arith, c.min-in_head.ensures))) (omega (arith, e.bytes.long, c.min-in_head.ensures)) (short_same old now _ e.reads.place) e.given c.read_blocks.ensures.given

pub returns-clause-bytes : goal.returns-clause-bytes
returns-clause-bytes g c =
    frame_bytes c.read_blocks.result c.args.len c.min-in_head.result c.read_head.new.block c.read_blocks.new.hold.items c.min-in_head.ensures c.in-Ok.ensures.bytes c.read_blocks.ensures.bytes
