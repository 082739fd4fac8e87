use Rattle.std.proofs.Common.{rules, ◌+◌, List, map, length-set, subst, ◌∙◌, arith}
use Rattle.pcap_io.specs.Capture.{Packet}
use Rattle.std.specs.Prelude.{true}
use Rattle.frags.specs.Account.{every}
use Rattle.gro.specs.Slots.{packet_of, of_packets}
use Rattle.lanes.specs.Lanes.{IsIdleTap, IsTapReady}
use Rattle.lanes.specs.Work.{MayWatch}
use Rattle.lanes.proofs.Adding.{after_both, after_later, after_none, tap_blocks, tap_keeps}
use Rattle.lanes.proofs.Idle.{idle_ready, idle_taps}
use Rattle.lanes.proofs.Listing.{all_set, each_placed, place_set, rest_set}
use Rattle.lanes.proofs.fill.fill_taps.Goals as goal

pub loop-i-init : goal.loop-i-init
loop-i-init g c =
    let ls = c.args.lanes.now in
    record {
      after = after_none 1 c.args.packets.now.items c.requires.may.held c.requires.shared c.requires.may.weigh;
      kept = λ t m. let z = idle_taps ls c.requires.may.idle t m in (omega (arith, z.0), omega (arith, z.1));
      blocks = λ bs m. let z = idle_taps ls c.requires.may.idle (every bs) m in omega (arith, z.0, z.1);
      ready = idle_ready ls c.requires.may.idle;
      served = λ k d lt. absurd (omega (arith, lt));
      idle = λ k d le lt. c.requires.may.idle k d lt;
      size = omega arith;
    }

pub serve_tap-requires-clause-idle : goal.serve_tap-requires-clause-idle
serve_tap-requires-clause-idle g c = c.loop-i.invariant.idle c.loop-i.i c.index-lanes-i.result (omega arith) (omega arith)

pub returns-in_err-serve_tap-clause-after : goal.returns-in_err-serve_tap-clause-after
returns-in_err-serve_tap-clause-after g c =
    let l = c.loop-i in
    let old = c.args.packets.now.items in
    after_later (l.i + 2) 9 old c.serve_tap.new.packets.items (omega arith)
    (after_both (l.i + 1) (l.i + 2) old l.packets.items c.serve_tap.new.packets.items l.invariant.after c.in_err-serve_tap.ensures.after)

pub returns-in_err-serve_tap-clause-serves : goal.returns-in_err-serve_tap-clause-serves
returns-in_err-serve_tap-clause-serves g c =
    let l = c.loop-i in
    let i = l.invariant in
    let d = c.index-lanes-i.result in
    let m = c.serve_tap.new.lane in
    let old = of_packets c.args.packets.now.items in
    let mid = of_packets l.packets.items in
    let now = of_packets c.serve_tap.new.packets.items in
    let e = c.in_err-serve_tap.ensures in
    let idle = i.idle l.i d (omega arith) (omega arith) in
    record {
      kept = tap_keeps l.i old mid now l.lanes d m (omega arith) idle i.kept e.kept;
      blocks = tap_blocks l.i old mid now l.lanes d m (omega arith) idle i.blocks e.blocks;
      ready = all_set IsTapReady l.lanes l.i m i.ready e.ready;
      served = search rules;
      size = length-set l.lanes l.i m ∙ i.size;
    }

pub loop-i-preserved : goal.loop-i-preserved
loop-i-preserved g c =
    let l = c.loop-i in
    let i = l.invariant in
    let d = c.index-lanes-i.result in
    let m = c.serve_tap.new.lane in
    let e = c.in_ok-serve_tap.ensures in
    let old = c.args.packets.now.items in
    let now = c.serve_tap.new.packets.items in
    let own : MayWatch true c.args.plan.now (map packet_of old) l.i m = subst (λ (z : List Packet). MayWatch true c.args.plan.now z l.i m) i.after.same e.served in
    record {
      after = after_both (l.i + 1) (l.i + 1 + 1) old l.packets.items now i.after (after_later (l.i + 2) (l.i + 1 + 1) l.packets.items now (omega arith) e.after);
      kept = tap_keeps l.i (of_packets old) (of_packets l.packets.items) (of_packets now) l.lanes d m (omega arith) (i.idle l.i d (omega arith) (omega arith)) i.kept e.kept;
      blocks = tap_blocks l.i (of_packets old) (of_packets l.packets.items) (of_packets now) l.lanes d m (omega arith) (i.idle l.i d (omega arith) (omega arith)) i.blocks e.blocks;
      ready = all_set IsTapReady l.lanes l.i m i.ready e.ready;
      served = place_set (MayWatch true c.args.plan.now (map packet_of old)) l.lanes l.i (l.i + 1) m (omega arith) i.served own;
      idle = rest_set IsIdleTap l.lanes l.i (l.i + 1) m (omega arith) i.idle;
      size = length-set l.lanes l.i m ∙ i.size;
    }

pub returns-clause-after : goal.returns-clause-after
returns-clause-after g c = after_later (c.loop-i.i + 1) 9 c.args.packets.now.items c.loop-i.packets.items (omega arith) c.loop-i.invariant.after

pub returns-clause-serves : goal.returns-clause-serves
returns-clause-serves g c =
    let l = c.loop-i in
    let i = l.invariant in
    record {
      kept = i.kept;
      blocks = i.blocks;
      ready = i.ready;
      served = each_placed (MayWatch true c.args.plan.now (map packet_of c.args.packets.now.items)) l.lanes (λ k d lt. i.served k d (omega (arith, lt, i.size, c.loop-i-test.false)) lt);
      size = i.size;
    }
