use Rattle.std.proofs.Common.{◌≡◌, ◌+◌, [], length, drop, ap, arith}
use Rattle.std.proofs.lemmas.List.Sums.{sum_by-drop_more}
use Rattle.pcap_io.specs.Capture.{Packet}
use Rattle.comparing.specs.Texts.{text_bytes}
use Rattle.comparing.proofs.lane_totals.count_texts.Goals as goal

none : Packet
none = record { number = 0; sec = 0; frac = 0; original = 0; frame = [] }

pub loop-i-preserved : goal.loop-i-preserved
loop-i-preserved c =
    let l = c.loop-i in
    let texts = c.args.texts.now in
    let e : (l.bytes + length c.get.result.bytes.now) + text_bytes (drop (l.i + 1) texts) ≡ text_bytes texts
    = omega (arith, l.invariant, sum_by-drop_more (λ (x : Packet). length x.frame) texts l.i none (omega arith), ap (λ (p : Packet). length p.frame) (c.get.ensures.text none)) in
    e
