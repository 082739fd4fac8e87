use Rattle.std.proofs.Common.{◌≡◌, drop}
use Rattle.frags.specs.Gifts.{worn}
use Rattle.frags.proofs.pieces.Pieces.is_worn.Given as goal

abbrev pub invariant-loop-i : goal.invariant-loop-i
invariant-loop-i l = worn (drop l.i l.self-inside.items.items) ≡ worn l.self-inside.items.items
