use Rattle.std.proofs.Common.{◌≡◌, ◌+◌, ◌<◌, length}
use Rattle.std.specs.List.{AllByRecursion}
use Rattle.gro_table.specs.Build.{pieces_in}
use Rattle.frame_runs.specs.Chains.{chain_of}
use Rattle.gro_table.specs.Waiting.{chosen, lined_up, run_held}
use Rattle.gro_table.proofs.places.count_pieces.Given as goal

-- with those of what is left of the chain it is all pieces
abbrev pub invariant-loop-left : goal.invariant-loop-left
invariant-loop-left l = record {
  sum : l.count + pieces_in (chosen (lined_up l.list) (chain_of l.next l.left l.k)) ≡ pieces_in (run_held l.list l.next l.run);
  inside : AllByRecursion (λ k. k < length l.list.slots.items) (chain_of l.next l.left l.k);
}

abbrev pub decreases-loop-left : goal.decreases-loop-left
decreases-loop-left l = l.left
