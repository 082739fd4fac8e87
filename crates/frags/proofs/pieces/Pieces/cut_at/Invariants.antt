use Rattle.std.proofs.Common.{◌≡◌, ◌+◌, length, drop}
use Rattle.frags.specs.Gifts.{front, cut_worn}
use Rattle.frags.proofs.pieces.Pieces.cut_at.Given as goal

abbrev pub invariant-loop-i : goal.invariant-loop-i
invariant-loop-i l = record {
  worn : cut_worn l.left (drop l.i l.self-inside.items.items) ≡ cut_worn l.at l.self-inside.items.items;
  count : l.i + length (front l.left (drop l.i l.self-inside.items.items)) ≡ length (front l.at l.self-inside.items.items);
}
