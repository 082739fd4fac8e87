use Rattle.std.proofs.Common.{◌≡◌, ◌+◌, ◌-◌, ◌≤◌, ◌++◌, length, take, drop}
use Rattle.frags.specs.PieceList.{bytes_of, size_of}
use Rattle.frags.proofs.pieces.Pieces.copy_out.Given as goal

abbrev pub invariant-loop-i : goal.invariant-loop-i
invariant-loop-i l = record {
  copied : take l.done l.into ++ take (length l.into - l.done)
      (drop l.skip (bytes_of (drop l.i l.self-inside.items.items)))
      ≡ take (length l.fn.into) (drop l.at (bytes_of l.self-inside.items.items));
  within : (length l.into - l.done) + l.skip ≤ size_of (drop l.i l.self-inside.items.items);
  most : l.done ≤ length l.into;
  same : length l.into ≡ length l.fn.into;
}
