use Rattle.std.proofs.Common.{◌≡◌, ◌<◌, drop}
use Rattle.frags.specs.PieceList.{byte_in, size_of}
use Rattle.frags.proofs.pieces.Pieces.find_byte.Given as goal

abbrev pub invariant-loop-k : goal.invariant-loop-k
invariant-loop-k l = record {
  byte : byte_in l.left (drop l.k l.self-inside.items.items) ≡ byte_in l.i l.self-inside.items.items;
  within : l.left < size_of (drop l.k l.self-inside.items.items);
}
