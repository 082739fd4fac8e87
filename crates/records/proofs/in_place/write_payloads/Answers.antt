use Rattle.std.proofs.Common.{◌<◌, ◌≤◌, ◌-◌, ℕ, List, length, map, drop, arith, get_or}
use Rattle.std.proofs.lemmas.Result.{err_from_is_err_and}
use Rattle.off_io.proofs.Owing.{Owes-less, Owes-failed}
use Rattle.pcap_io.specs.Capture.{Packet}
use Rattle.skb.specs.SkbState.{buffer_bytes}
use Rattle.gro.specs.declared.slot.Slot.{Slot}
use Rattle.gro.specs.Slots.{packet_of}
use Rattle.frame_runs.specs.Chains.{chain_of, packet_at}
use Rattle.frame_runs.specs.MergedRun.{payloads_behind}
use Rattle.frame_runs.proofs.Payloads.{all_step}
use Rattle.records.proofs.InPlace.{owes_step, first_step, frame_there}
use Rattle.records.proofs.Writing.{stopped}
use Rattle.records.proofs.in_place.write_payloads.Goals as goal

pub returns-in_err-write_from : goal.returns-in_err-write_from
returns-in_err-write_from g c =
    let p = err_from_is_err_and c.from_residual.result c.from_residual.ensures.1 in
    let packets : List Slot = c.args.packets.now in
    let ps : List Packet = map packet_of packets in
    let next = c.args.next.now in
    let at = c.args.at in
    let l = c.loop-left in
    let slot : Slot = get_or packets l.k c.index-packets-k.result in
    let below : l.k < length packets = (all_step (λ j. j < length packets) next l.left l.k c.loop-left-test.true l.invariant.inside).0 in
    let all : List ℕ = payloads_behind at (map (packet_at ps) (chain_of next c.args.count c.args.first)) in
    let owes = owes_step _ _ all ps at next l.left l.k (buffer_bytes slot.skb) c.loop-left-test.true (frame_there packets l.k c.index-packets-k.result below) l.invariant.owes in
    let e = c.in_err-write_from.ensures.writes in
    let err = Owes-failed _ _ _ all (drop at (buffer_bytes slot.skb)) (payloads_behind at (map (packet_at ps) (chain_of next (l.left - 1) (get_or next l.k 0)))) owes e.err in
    record { writes = stopped c.from_residual.result _ _ _ _ _ _ p.0 _ p.1 err l.invariant.later e.cause }

pub loop-left-preserved : goal.loop-left-preserved
loop-left-preserved g c =
    let packets : List Slot = c.args.packets.now in
    let ps : List Packet = map packet_of packets in
    let next = c.args.next.now in
    let at = c.args.at in
    let l = c.loop-left in
    let slot : Slot = get_or packets l.k c.index-packets-k.result in
    let inside = all_step (λ j. j < length packets) next l.left l.k c.loop-left-test.true l.invariant.inside in
    let there = first_step (λ (p : Packet). at ≤ length p.frame) ps next l.left l.k c.loop-left-test.true l.invariant.there in
    let all : List ℕ = payloads_behind at (map (packet_at ps) (chain_of next c.args.count c.args.first)) in
    let owes = owes_step _ _ all ps at next l.left l.k (buffer_bytes slot.skb) c.loop-left-test.true (frame_there packets l.k c.index-packets-k.result inside.0) l.invariant.owes in
    record {
      owes = Owes-less _ _ _ all (drop at (buffer_bytes slot.skb)) (payloads_behind at (map (packet_at ps) (chain_of next (l.left - 1) (get_or next l.k 0)))) owes c.in_ok-write_from.ensures.writes.ok;
      inside = inside.1;
      there = there.1;
      later = omega (arith, l.invariant.later, c.in_ok-write_from.ensures.writes.cause.later);
    }
