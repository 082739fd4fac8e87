use Rattle.std.proofs.Common.{◌+◌, ◌-◌, ◌≤◌, length}
use Rattle.frags.specs.Account.{Keeps, KeepsBlocks, both, of_outcomes}
use Rattle.frags.specs.Growth.{Grows}
use Rattle.taps.specs.Clones.{blocks_of, of_clones}
use Rattle.taps.proofs.clones.release_all.Given as goal

abbrev pub invariant-loop-clone : goal.invariant-loop-clone
invariant-loop-clone l = record {
  fewer : blocks_of l.clones.items ≤ blocks_of l.fn.clones.items;
  grows : Grows (blocks_of l.fn.clones.items - blocks_of l.clones.items) l.fn.out l.out;
  places : l.fn.out.spare + blocks_of l.clones.items ≤ l.out.spare + blocks_of l.fn.clones.items;
  kept : Keeps (both (of_clones l.fn.clones.items) (of_outcomes l.fn.out)) (both (of_clones l.clones.items) (of_outcomes l.out));
  blocks : KeepsBlocks (both (of_clones l.fn.clones.items) (of_outcomes l.fn.out)) (both (of_clones l.clones.items) (of_outcomes l.out));
}

abbrev pub decreases-loop-clone : goal.decreases-loop-clone
decreases-loop-clone l = length l.clones.items
