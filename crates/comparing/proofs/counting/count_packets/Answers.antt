use Rattle.std.proofs.Common.{◌≡◌, ◌∙◌, [], ◌∷◌, List, map, ap, sym, subst, arith}
use Rattle.std.proofs.lemmas.List.{length-map}
use Rattle.pcap_io.specs.Capture.{Packet}
use Rattle.gro.specs.Slots.{packet_of as packet_in}
use Rattle.taps.specs.Clones.{packet_of}
use Rattle.comparing.specs.Chain.{Counts}
use Rattle.comparing.specs.Items.{item_at}
use Rattle.check_totals.specs.Returned.{packets_in}
use Rattle.comparing.proofs.Runs.{here, alone, first_inside}
use Rattle.comparing.proofs.counting.count_packets.Goals as goal

pub returns-then-run-eq0-clause-counts : goal.returns-then-run-eq0-clause-counts
returns-then-run-eq0-clause-counts c = λ q own.
    let slots = c.args.packets.now in
    let run = c.args.run.now in
    let first = c.index-packets-run.result in
    let e : packets_in (item_at slots c.args.next.now run) ≡ packet_in first ∷ [] =
    alone (map packet_in slots) c.args.next.now run c.if-run-eq0.true
    ∙ ap (λ (p : Packet). p ∷ []) (here slots run.first first (omega (arith, c.requires.run.is.inside.0, length-map slots packet_in)) c.index-packets-run.is) in
    subst (λ (z : List Packet). Counts (map packet_of c.args.kept.now) q c.args.at.now z c.count_packet.new.at c.count_packet.result) (sym e) (c.count_packet.ensures.counts q own)

pub bounds-packets-run : goal.bounds-packets-run
bounds-packets-run c = first_inside c.args.packets.now c.args.next.now c.args.run.now c.requires.run.is
