use Rattle.std.proofs.Common.{◌≡◌, ◌-◌, ◌*◌, ◌≤◌, length}
use Rattle.std.specs.VecDeque.{deque_capacity}
use Rattle.off_io.specs.Told.{Told}
use Rattle.pcap_io.specs.Places.{ReadsOn}
use Rattle.reading.specs.Bodies.{AreReadInto}
use Rattle.reading.specs.Data.{data_of}
use Rattle.reading.proofs.Filling.{Filled}
use Rattle.offload_model.specs.Laws.{InBytes}
use Rattle.reading.proofs.body.read_blocks.Given as goal

abbrev pub invariant-loop-i : goal.invariant-loop-i
invariant-loop-i g l = record {
  told : Told (g.S.Source.left l.fn.reader.source.now) (g.S.Source.left l.reader.source.now) (Filled (l.size - l.left) l.hold.items);
  long : length (data_of 0 (l.size - l.left) l.hold.items) ≡ l.size - l.left;
  in_bytes : InBytes (data_of 0 (l.size - l.left) l.hold.items);
  place : ReadsOn l.fn.reader.place l.reader.place (l.size - l.left);
  left : l.left ≡ l.size - 2048 * l.i;
  blocks : AreReadInto l.fn.hold.items l.hold.items;
  capacity : deque_capacity l.hold ≡ deque_capacity l.fn.hold;
  same : l.reader.source.ghost_name ≡ l.fn.reader.source.ghost_name;
  later : g.S.Source.faults l.fn.reader.source.now ≤ g.S.Source.faults l.reader.source.now;
}
