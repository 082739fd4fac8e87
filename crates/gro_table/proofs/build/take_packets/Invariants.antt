use Rattle.std.proofs.Common.{◌+◌, ◌≤◌, ◌<◌, ◌^◌, List, Option, length}
use Rattle.frags.specs.PieceList.{size_of}
use Rattle.gro_table.specs.declared.packet.Packet.{Packet as Held}
use Rattle.gro_table.specs.Build.{Build, build, IsBuild, TakesPackets, AreJoinable, sizes_behind, pieces_in, free_in}
use Rattle.frame_runs.specs.Chains.{chain_of, behind, AreDistinct}
use Rattle.gro_table.specs.Waiting.{chosen, AreThere, Empties}
use Rattle.gro_table.proofs.build.take_packets.Given as goal

-- whatever takes the packets of the rest of the chain from here takes all from the start
abbrev pub invariant-loop-left : goal.invariant-loop-left
invariant-loop-left l = record {
  linked : length l.waiting.items ≤ length l.next;
  there : AreThere l.waiting.items (chain_of l.next l.left l.k);
  distinct : AreDistinct (chain_of l.next l.left l.k);
  each : AreJoinable l.at (chosen l.waiting.items (chain_of l.next l.left l.k));
  order : l.at ≤ l.end;
  is : IsBuild (build l.block l.end l.pieces.pieces l.out);
  reserved : pieces_in (chosen l.waiting.items (chain_of l.next l.left l.k)) ≤ l.pieces.room;
  places : free_in (chosen l.waiting.items (chain_of l.next l.left l.k)) ≤ l.out.spare;
  small : l.end + size_of l.pieces.pieces + sizes_behind l.at (chosen l.waiting.items (chain_of l.next l.left l.k)) < 2 ^ 31;
  rest : (b : Build) → TakesPackets (chosen l.waiting.items (chain_of l.next l.left l.k)) l.at (build l.block l.end l.pieces.pieces l.out) b
      → TakesPackets (chosen l.fn.waiting.items (behind l.next l.run)) l.at (build l.fn.block l.fn.filled l.fn.pieces.pieces l.fn.out) b;
  empties : (ys : List (Option Held)) → Empties (chain_of l.next l.left l.k) l.waiting.items ys → Empties (behind l.next l.run) l.fn.waiting.items ys;
}

abbrev pub decreases-loop-left : goal.decreases-loop-left
decreases-loop-left l = l.left
