use Rattle.std.specs.Prelude.{⊤}
use Rattle.std.proofs.Common.{◌≡◌, ◌+◌, ◌-◌, ◌^◌, ◌≤◌, None, min, length}
use Rattle.std.specs.VecDeque.{deque_capacity}
use Rattle.off_io.specs.Told.{Told}
use Rattle.pcap_io.specs.declared.place.Place.{Place}
use Rattle.block_pool.specs.PoolState.{home}
use Rattle.rounds.specs.Filling.{reached, Reached, Stands}
use Rattle.rounds.specs.RoundOf.{at_hand, brought_by, Came, IsHold, IsRoundOf}
use Rattle.rounds.proofs.round_reading.read_more.Given as goal

abbrev pub invariant-reading : goal.invariant-reading
invariant-reading g l = record {
  stands : (start : Reached) → (from : Place) → Stands start from (reached g.S.Source.left g.S.Source.faults l.initial.reader) l.initial.head l.initial.packets.items
      → Stands start from (reached g.S.Source.left g.S.Source.faults l.reader) l.head l.packets.items;
  tells : Told (g.S.Source.left l.initial.reader.source.now) (g.S.Source.left l.reader.source.now) (λ _ _. ⊤);
  size : length l.packets.items ≤ l.budget;
  unkept : l.budget ≤ length l.packets.items → l.head ≡ None;
  reserved : length l.initial.packets.items + l.initial.packets.room ≤ length l.packets.items + l.packets.room;
  places : l.spares.made ≡ l.initial.spares.made;
  round : IsRoundOf l.packets.items (home l.spares) l.used;
  came : Came (brought_by g.H.Supply.weights g.H.Supply.refusals l.initial.more)
      (brought_by g.H.Supply.weights g.H.Supply.refusals l.more) (home l.initial.pool + l.initial.used) (home l.pool + l.used)
      (at_hand l.initial.pool l.initial.packets.items l.initial.spares) (at_hand l.pool l.packets.items l.spares);
  within : l.used ≤ l.initial.pool.made;
  made : l.pool.made ≡ l.initial.pool.made;
  more : l.initial.used ≤ l.used;
  taken : l.pool.taken ≡ min (l.initial.pool.taken + (l.used - l.initial.used)) (2 ^ 64 - 1);
  least : l.initial.pool.taken ≤ l.pool.taken;
  most : l.pool.taken + l.initial.used ≤ l.initial.pool.taken + l.used;
  hold : IsHold l.hold.items (deque_capacity l.hold);
  same : l.reader.source.ghost_name ≡ l.initial.reader.source.ghost_name;
}

abbrev pub decreases-reading : goal.decreases-reading
decreases-reading g l = l.budget - length l.packets.items
