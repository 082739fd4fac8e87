use Rattle.std.proofs.Common.{◌≤◌, length, map}
use Rattle.taps.specs.Clones.{packet_of}
use Rattle.comparing.specs.KeptFlows.{AreFlowsFrom}
use Rattle.comparing.proofs.kept_flows.KeptFlows.of.Given as goal

abbrev pub invariant-loop-i : goal.invariant-loop-i
invariant-loop-i l = record {
  within : l.i ≤ length l.kept;
  flows : AreFlowsFrom (map packet_of l.kept) l.i l.flows;
}

abbrev pub decreases-loop-i : goal.decreases-loop-i
decreases-loop-i l = l.i
