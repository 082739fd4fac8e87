use Rattle.std.proofs.Common.{◌≤◌, ℕ, ◌∷◌, ◌∙◌, ap, subst, sym}
use Rattle.pcap_io.specs.Written.{off_bytes2}
use Rattle.frame_runs.specs.MergedRun.{headers_size, payloads_behind}
use Rattle.gro.specs.Slots.{packet_of}
use Rattle.offload_model.specs.Merged.{merged_of}
use Rattle.offload_model.specs.Written.{head_of}
use Rattle.records.proofs.Heads.{row_is}
use Rattle.records.proofs.InPlace.{merged_record}
use Rattle.records.proofs.in_place.put_row.Goals as goal

pub returns-clause-row : goal.returns-clause-row
returns-clause-row c = λ rest knows.
    let first = c.args.first.now in
    let merged = merged_of (packet_of first ∷ rest) in
    row_is c.args.file.now.order first.sec first.frac c.frame_len.result (head_of c.args.lane merged) c.copy_from_slice.new.self c.record_header-header.result c.bytes.result c.put_headers.new.headers
    (payloads_behind (headers_size c.args.run.now) (packet_of first ∷ rest)) merged.packet.frame (c.copy_from_slice.ensures.after ∙ c.both_heads.ensures.bytes) c.record_header-header.ensures.bytes
    (c.bytes.ensures.bytes ∙ ap off_bytes2 (c.head-offload.ensures.head rest knows)) (c.frame_len.ensures.len rest knows) (c.put_headers.ensures.frame rest knows)
    ∙ merged_record c.args.file.now.order c.args.lane (packet_of first) rest (subst (λ (n : ℕ). 1 ≤ n) (sym knows.more) c.requires.several)
