use Rattle.std.proofs.Common.{◌+◌, ◌-◌, ◌≤◌, ◌++◌, ℕ, List, length, take}
use Rattle.gso.specs.Sums.{AreSumsOf, IsRoom}
use Rattle.gso.proofs.sums.Sums.add.Given as goal

abbrev pub invariant-loop-at : goal.invariant-loop-at
invariant-loop-at l = record {
  within : l.at ≤ length l.bytes;
  room : IsRoom l.m l.self;
  len : l.self.rest.len ≤ l.fn.self.rest.len + l.at;
  sums : (f : List ℕ) → AreSumsOf l.m l.fn.self f → AreSumsOf l.m l.self (f ++ take l.at l.bytes);
}

abbrev pub decreases-loop-at : goal.decreases-loop-at
decreases-loop-at l = length l.bytes - l.at
