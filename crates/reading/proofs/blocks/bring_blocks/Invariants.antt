use Rattle.std.proofs.Common.{◌≡◌, ℕ, ◌+◌, length}
use Rattle.std.specs.List.{sum_by}
use Rattle.block_pool.specs.PoolState.{home, weighed}
use Rattle.frags.specs.PieceList.{AreWhole}
use Rattle.frags.specs.declared.pieces.Piece.{Piece}
use Rattle.skb.specs.SkbState.{weighed_in}
use Rattle.reading.proofs.blocks.bring_blocks.Given as goal

abbrev pub invariant-loop-block : goal.invariant-loop-block
invariant-loop-block l = record {
  whole : AreWhole l.rest;
  home : home l.pool + length l.rest ≡ home l.fn.pool + (length l.fn.skb.rest + 1);
  blocks : (h : ℕ → ℕ) → weighed h l.pool.blocks + sum_by (λ (p : Piece). h p.part.life.block) l.rest
      ≡ weighed h l.fn.pool.blocks + weighed_in h l.fn.skb;
  made : l.pool.made ≡ l.fn.pool.made;
  taken : l.pool.taken ≡ l.fn.pool.taken;
}

abbrev pub decreases-loop-block : goal.decreases-loop-block
decreases-loop-block l = length l.rest
