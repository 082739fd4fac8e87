use Rattle.std.proofs.Common.{◌-◌, ◌≤◌}
use Rattle.merge_tests.proofs.tapping.packets.packet.Given as goal

abbrev pub invariant-loop-from : goal.invariant-loop-from
invariant-loop-from l = l.from ≤ 300000

abbrev pub decreases-loop-from : goal.decreases-loop-from
decreases-loop-from l = l.len - l.from
