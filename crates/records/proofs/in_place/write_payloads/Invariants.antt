use Rattle.std.proofs.Common.{◌≤◌, ◌<◌, length, map}
use Rattle.std.specs.List.{AllByRecursion}
use Rattle.off_io.specs.Content.{Owes}
use Rattle.pcap_io.specs.Capture.{Packet}
use Rattle.gro.specs.Slots.{packet_of}
use Rattle.frame_runs.specs.Chains.{chain_of, packet_at}
use Rattle.frame_runs.specs.MergedRun.{payloads_behind}
use Rattle.records.proofs.in_place.write_payloads.Given as goal

-- of all payloads those of what is left of the chain are still to be written
abbrev pub invariant-loop-left : goal.invariant-loop-left
invariant-loop-left g l =
    let ps = map packet_of l.packets in
    record {
      owes : Owes (g.K.Sink.held l.initial.sink) (g.K.Sink.held l.sink) (payloads_behind l.at (map (packet_at ps) (chain_of l.next l.count l.first)))
          (payloads_behind l.at (map (packet_at ps) (chain_of l.next l.left l.k)));
      inside : AllByRecursion (λ k. k < length l.packets) (chain_of l.next l.left l.k);
      there : AllByRecursion (λ (p : Packet). l.at ≤ length p.frame) (map (packet_at ps) (chain_of l.next l.left l.k));
      later : g.K.Sink.faults l.initial.sink ≤ g.K.Sink.faults l.sink;
    }

abbrev pub decreases-loop-left : goal.decreases-loop-left
decreases-loop-left g l = l.left
