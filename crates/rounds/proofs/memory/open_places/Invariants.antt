use Rattle.std.proofs.Common.{◌≡◌, ◌≤◌, length, vec_capacity}
use Rattle.rounds.specs.Table.{AllOpen}
use Rattle.rounds.proofs.memory.open_places.Given as goal

abbrev pub invariant-loop : goal.invariant-loop
invariant-loop l = record {
  open_all : AllOpen l.places.items;
  filled : length l.places.items ≡ l.counter;
  room : l.n ≤ vec_capacity l.places;
}
