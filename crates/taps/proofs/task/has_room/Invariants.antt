use Rattle.std.proofs.Common.{◌≡◌, ◌+◌, drop}
use Rattle.taps.specs.Clones.{blocks_of}
use Rattle.taps.proofs.task.has_room.Given as goal

abbrev pub invariant-loop-clone : goal.invariant-loop-clone
invariant-loop-clone l = l.left + blocks_of l.clones ≡ l.places + blocks_of (drop l.clone-index l.clones)
