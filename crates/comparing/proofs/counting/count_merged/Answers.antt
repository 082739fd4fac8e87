use Rattle.std.proofs.Common.{◌∙◌, List, map, refl, sym, subst, rules}
use Rattle.pcap_io.specs.Capture.{Packet}
use Rattle.taps.specs.Clones.{packet_of}
use Rattle.comparing.specs.Chain.{Counts}
use Rattle.comparing.specs.Items.{item_at}
use Rattle.comparing.proofs.Starting.{cut_of_run, begins, first_held, knows_some}
use Rattle.comparing.proofs.Runs.{first_inside}
use Rattle.comparing.proofs.counting.count_merged.Goals as goal

pub count_segments-requires-clause-of : goal.count_segments-requires-clause-of
count_segments-requires-clause-of c =
    let slots = c.args.packets.now in
    let next = c.args.next.now in
    let run = c.args.run.now in (
      (item_at slots next run).packet.frame,
      begins slots next run c.requires.run c.index-packets-run.result c.index-packets-run.is c.cut_of-cut.result c.cut_of-cut.ensures.cut c.put_headers.new.headers
          c.of_run-payload.result c.cut_of-cut.ensures.place
          (c.put_headers.ensures.size ∙ search rules) c.of_run-payload.ensures.all c.put_headers.ensures.frame,
    )

pub returns-clause-counts : goal.returns-clause-counts
returns-clause-counts c = λ q own.
    let slots = c.args.packets.now in
    let next = c.args.next.now in
    let run = c.args.run.now in
    let is = begins slots next run c.requires.run c.index-packets-run.result c.index-packets-run.is c.cut_of-cut.result c.cut_of-cut.ensures.cut c.put_headers.new.headers c.of_run-payload.result
    c.cut_of-cut.ensures.place (c.put_headers.ensures.size ∙ search rules) c.of_run-payload.ensures.all c.put_headers.ensures.frame in
    let k = cut_of_run slots next run c.requires.run c.index-packets-run.result c.index-packets-run.is c.cut_of-cut.result c.cut_of-cut.ensures.cut in
    let r = item_at slots next run in
    subst (λ (z : List Packet). Counts (map packet_of c.args.kept.now) q c.args.at.now z c.count_segments.new.at c.count_segments.result) (sym k.packets)
    (c.count_segments.ensures.counts r.packet.frame is q r.packet refl own)

pub bounds-packets-run : goal.bounds-packets-run
bounds-packets-run c = first_inside c.args.packets.now c.args.next.now c.args.run.now c.requires.run.is

pub cut_of-cut-requires-clause-slot : goal.cut_of-cut-requires-clause-slot
cut_of-cut-requires-clause-slot c = first_held c.args.packets.now c.args.next.now c.args.run.now c.requires.run c.index-packets-run.result c.index-packets-run.is

pub cut_of-cut-requires-clause-run : goal.cut_of-cut-requires-clause-run
cut_of-cut-requires-clause-run c = knows_some c.args.packets.now c.args.next.now c.args.run.now c.requires.run c.index-packets-run.result c.index-packets-run.is

pub put_headers-requires-clause-slot : goal.put_headers-requires-clause-slot
put_headers-requires-clause-slot c = first_held c.args.packets.now c.args.next.now c.args.run.now c.requires.run c.index-packets-run.result c.index-packets-run.is

pub put_headers-requires-clause-run : goal.put_headers-requires-clause-run
put_headers-requires-clause-run c = knows_some c.args.packets.now c.args.next.now c.args.run.now c.requires.run c.index-packets-run.result c.index-packets-run.is
