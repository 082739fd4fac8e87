use Rattle.std.proofs.Common.{◌≡◌, ◌≤◌, ◌+◌, ◌-◌, length}
use Rattle.std.specs.List.{flat_map, range_with_len}
use Rattle.off_io.specs.Content.{Owes}
use Rattle.gso.specs.Places.{IsPayloadPlace}
use Rattle.records.specs.Records.{segment_bytes}
use Rattle.records.proofs.segments.write_segments.Given as goal

abbrev pub invariant-loop-i : goal.invariant-loop-i
invariant-loop-i g l = record {
  at : IsPayloadPlace l.segments l.i l.place;
  size : length l.row ≡ 16 + l.segments.cut.layout.payload_at;
  owes : Owes (g.K.Sink.held l.initial.sink) (g.K.Sink.held l.sink) (flat_map (segment_bytes l.file.order l.time l.segments) (range_with_len 0 l.segments.cut.n))
      (flat_map (segment_bytes l.file.order l.time l.segments) (range_with_len l.i (l.segments.cut.n - l.i)));
  later : g.K.Sink.faults l.initial.sink ≤ g.K.Sink.faults l.sink;
}
