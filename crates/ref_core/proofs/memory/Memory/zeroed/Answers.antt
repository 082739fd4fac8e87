use Rattle.std.proofs.Common.{ℕ, List, replicate, arith, ◌∙◌, ap, ◌++◌, [], ◌∷◌}
use Rattle.std.proofs.lemmas.List.{replicate_more}
use Rattle.ref_core.specs.Memory.{block_size}
use Rattle.ref_core.proofs.memory.Memory.zeroed.Goals as goal

pub loop-made-preserved : goal.loop-made-preserved
loop-made-preserved c = let blank : List ℕ = replicate block_size 0 in
    (c.push_reserved.ensures.items ∙ ap (λ xs. xs ++ blank ∷ []) c.loop-made.invariant.0 ∙ replicate_more c.loop-made.made blank, omega arith)
