use Rattle.std.proofs.Common.{◌≡◌, ◌+◌, ◌-◌, ◌≤◌, ◌++◌, List, length, drop, map}
use Rattle.std.specs.VecDeque.{deque_len, deque_capacity}
use Rattle.gro_table.specs.declared.places.Places.{Places}
use Rattle.gro_table.specs.Places.{AreBare, AreEmpty, ArePlacesOf}
use Rattle.gro_table.specs.Waiting.{run_held, held_in}
use Rattle.gro_table.proofs.places.all_places.Given as goal

abbrev pub invariant-loop-i : goal.invariant-loop-i
invariant-loop-i l = record {
  bare : AreBare l.shelf.items;
  empty : AreEmpty l.all.items;
  end : l.i-end ≡ length l.engine.runs.items;
  within : l.i ≤ length l.engine.runs.items;
  room : deque_len l.all + (length l.engine.runs.items - l.i) ≤ deque_capacity l.all;
  places : (qs : List Places) → ArePlacesOf (map (run_held l.list l.engine.next.items) (drop l.i l.engine.runs.items)) qs → ArePlacesOf (held_in l.list l.engine) (l.all.items ++ qs);
}
