use Rattle.std.proofs.Common.{◌≡◌, ◌≤◌, take, drop}
use Rattle.off_io.specs.Content.{Owes}
use Rattle.gso.specs.Places.{IsPlace, bytes_at, steps_left}
use Rattle.records.proofs.segments.write_next.Given as goal

abbrev pub invariant-loop-left : goal.invariant-loop-left
invariant-loop-left g l = record {
  place : IsPlace l.segments.skb l.place;
  within : l.left ≤ l.place.left;
  owes : Owes (g.K.Sink.held l.initial.sink) (g.K.Sink.held l.sink) (take l.n (bytes_at l.segments.skb l.initial.place)) (take l.left (bytes_at l.segments.skb l.place));
  behind : drop l.left (bytes_at l.segments.skb l.place) ≡ drop l.n (bytes_at l.segments.skb l.initial.place);
  later : g.K.Sink.faults l.initial.sink ≤ g.K.Sink.faults l.sink;
}

abbrev pub decreases-loop-left : goal.decreases-loop-left
decreases-loop-left g l = steps_left l.segments.skb l.place
