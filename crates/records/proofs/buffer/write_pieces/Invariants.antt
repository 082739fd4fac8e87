use Rattle.std.proofs.Common.{◌≤◌, take}
use Rattle.std.specs.List.{flat_map}
use Rattle.std.specs.Io.KnownBytes.{Appends}
use Rattle.frags.specs.PieceList.{piece_bytes}
use Rattle.records.proofs.buffer.write_pieces.Given as goal

abbrev pub invariant-loop-i : goal.invariant-loop-i
invariant-loop-i g l =
    Appends (g.K.Sink.held l.initial.sink) (g.K.Sink.held l.sink) (flat_map piece_bytes (take l.i l.frame.rest))
    × (g.K.Sink.faults l.initial.sink ≤ g.K.Sink.faults l.sink)
