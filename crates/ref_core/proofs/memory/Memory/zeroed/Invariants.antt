use Rattle.std.proofs.Common.{◌≡◌, ◌≤◌, replicate}
use Rattle.std.specs.Vec.{vec_capacity}
use Rattle.ref_core.specs.Memory.{block_size}
use Rattle.ref_core.proofs.memory.Memory.zeroed.Given as goal

abbrev pub invariant-loop-made : goal.invariant-loop-made
invariant-loop-made l = (l.zeros.items ≡ replicate l.made (replicate block_size 0)) × (l.blocks ≤ vec_capacity l.zeros)
