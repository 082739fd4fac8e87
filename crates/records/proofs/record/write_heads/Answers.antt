use Rattle.std.proofs.Common.{◌+◌, sym, ap, ◌∙◌}
use Rattle.pcap_io.specs.Written.{rec_bytes, off_bytes2}
use Rattle.records.specs.Records.{heads_of}
use Rattle.records.proofs.Heads.{joined_is}
use Rattle.records.proofs.Writing.{same_bytes}
use Rattle.records.proofs.record.write_heads.Goals as goal

pub returns : goal.returns
returns g c =
    let order = c.args.file.now.order in
    let t = c.args.time in
    let bytes_are = joined_is c.both_heads.result c.record_header-header.result c.bytes.result
    (rec_bytes order t.sec t.frac (c.args.len + 16) (c.args.original + 16)) (off_bytes2 c.in-Some.head)
    c.both_heads.ensures.bytes c.record_header-header.ensures.bytes c.bytes.ensures.bytes in
    let e = c.write_all.ensures in
    let heads = ap (heads_of order t.sec t.frac c.args.len c.args.original) (sym c.in-Some.is) in
    record { writes = same_bytes c.write_all.result _ _ _ _ _ _ (bytes_are ∙ heads) (record { ok = e.ok; err = e.err; cause = e.cause }) }
