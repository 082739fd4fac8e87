use Rattle.std.proofs.Common.{◌≡◌, ◌+◌, ◌-◌, ◌≤◌, ◌++◌, List, length, drop, map, vec_len, vec_capacity}
use Rattle.gro_table.specs.declared.item.Item.{Item}
use Rattle.gro_table.specs.Places.{ArePlacesOf}
use Rattle.gro_table.specs.Table.{AreItemsFrom}
use Rattle.gro_table.specs.Waiting.{held_at, AreWaiting}
use Rattle.gro_table.proofs.item.build_all.Given as goal

abbrev pub invariant-loop-i : goal.invariant-loop-i
invariant-loop-i l = record {
  end : l.i-end ≡ length l.engine.runs.items;
  within : l.i ≤ length l.engine.runs.items;
  linked : length l.waiting.items ≤ length l.engine.next.items;
  waiting : AreWaiting l.engine.next.items (drop l.i l.engine.runs.items) l.waiting.items;
  places : ArePlacesOf (map (held_at l.engine.next.items l.waiting.items) (drop l.i l.engine.runs.items)) l.places.items;
  room : vec_len l.items + (length l.engine.runs.items - l.i) ≤ vec_capacity l.items;
  rest : (is : List Item) → AreItemsFrom (map (held_at l.engine.next.items l.waiting.items) (drop l.i l.engine.runs.items)) is
      → AreItemsFrom (map (held_at l.engine.next.items l.fn.waiting.items) l.engine.runs.items) (l.items.items ++ is);
}
