use Rattle.std.proofs.Common.{◌≡◌, ℕ, ◌+◌, ◌/◌, ◌≤◌, ◌++◌, length}
use Rattle.std.specs.VecDeque.{deque_capacity}
use Rattle.std.specs.List.{sum_by}
use Rattle.block_pool.specs.PoolState.{weighed}
use Rattle.frags.specs.PieceList.{size_of, bytes_of}
use Rattle.frags.specs.declared.pieces.Piece.{Piece}
use Rattle.reading.specs.Data.{data_of}
use Rattle.reading.specs.Laid.{MarkedFrom, WholeFrom}
use Rattle.reading.proofs.blocks.build_pieces.Given as goal

abbrev pub invariant-loop-left : goal.invariant-loop-left
invariant-loop-left l = record {
  whole : WholeFrom l.fn.first l.builder.pieces;
  marks : MarkedFrom (l.fn.first + length l.builder.pieces) l.hold.items;
  count : length l.builder.pieces + (l.left + 2047) / 2048 ≡ (l.fn.size + 2047) / 2048;
  size : size_of l.builder.pieces + l.left ≡ l.fn.size;
  bytes : bytes_of l.builder.pieces ++ data_of 0 l.left l.hold.items ≡ data_of 0 l.fn.size l.fn.hold.items;
  rest : length l.hold.items + length l.builder.pieces ≡ length l.fn.hold.items;
  named : (h : ℕ → ℕ) → sum_by (λ (p : Piece). h p.part.life.block) l.builder.pieces + weighed h l.hold.items
      ≡ weighed h l.fn.hold.items;
  room : (l.left + 2047) / 2048 ≤ l.builder.room;
  capacity : deque_capacity l.hold ≡ deque_capacity l.fn.hold;
}

abbrev pub decreases-loop-left : goal.decreases-loop-left
decreases-loop-left l = l.left
