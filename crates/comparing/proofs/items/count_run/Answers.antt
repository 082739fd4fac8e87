use Rattle.std.proofs.Common.{◌≡◌, ◌∙◌, ℕ, Option, List, map, ap, sym, subst, arith}
use Rattle.std.proofs.lemmas.List.{length-map}
use Rattle.frame_layout.specs.Key.{key_of}
use Rattle.pcap_io.specs.Capture.{Packet}
use Rattle.frame_runs.specs.Chains.{behind, packet_at}
use Rattle.gro.specs.Slots.{packet_of as packet_in}
use Rattle.taps.specs.Clones.{packet_of}
use Rattle.comparing.specs.Chain.{IsOwn}
use Rattle.comparing.specs.Items.{item_at}
use Rattle.comparing.specs.KeptFlows.{CountsIn}
use Rattle.check_totals.specs.Returned.{packets_in, flow_in}
use Rattle.comparing.proofs.Entering.{flows_moved, counted}
use Rattle.comparing.proofs.Runs.{there, flow_is, run_in_bytes, first_inside}
use Rattle.comparing.proofs.items.count_run.Goals as goal

pub returns-clause-flows : goal.returns-clause-flows
returns-clause-flows c =
    let ps = map packet_of c.args.kept.now in
    let f = c.args.flows.now in
    let q = c.flow_of-key.result in
    let own = subst (IsOwn ps q) (sym c.place-at.ensures.place) (c.requires.flows.own q) in
    flows_moved ps f c.move_to.new.self q _ c.place-at.result c.count_packets-count.new.at c.count_packets-count.result c.requires.flows c.place-at.ensures.place
    (c.count_packets-count.ensures.counts q own) c.move_to.ensures.moves

pub returns-clause-counts : goal.returns-clause-counts
returns-clause-counts c =
    let kept = map packet_of c.args.kept.now in
    let f = c.args.flows.now in
    let q = c.flow_of-key.result in
    let slots = c.args.packets.now in
    let ps = map packet_in slots in
    let run = c.args.run.now in
    let next = c.args.next.now in
    let is = c.requires.run in
    let r = item_at slots next run in
    let at = there slots run.first c.index-packets-run.result (omega (arith, is.is.inside.0, length-map slots packet_in)) in
    let key : q ≡ flow_in r = c.flow_of-key.ensures.key ∙ ap (λ (p : Packet). key_of p.frame) (sym at)
    ∙ sym (flow_is run (packet_at ps run.first) (map (packet_at ps) (behind next run)) is.is.knows (run_in_bytes slots next run is.is is.in_bytes)) in
    let own = subst (IsOwn kept q) (sym c.place-at.ensures.place) (c.requires.flows.own q) in
    subst (λ (k : Option (List ℕ)). CountsIn kept f k (packets_in r) c.move_to.new.self c.count_packets-count.result) key
    (counted kept f c.move_to.new.self q (packets_in r) c.place-at.result c.count_packets-count.new.at c.count_packets-count.result c.requires.flows c.place-at.ensures.place
    (c.count_packets-count.ensures.counts q own) c.move_to.ensures.moves)

pub bounds-packets-run : goal.bounds-packets-run
bounds-packets-run c = first_inside c.args.packets.now c.args.next.now c.args.run.now c.requires.run.is
