use Rattle.std.proofs.Common.{◌≤◌, take}
use Rattle.std.specs.List.{flat_map}
use Rattle.std.specs.Io.KnownBytes.{Appends}
use Rattle.rounds.specs.Lanes.{tap_bytes}
use Rattle.rounds.proofs.writing.write_taps.Given as goal

abbrev pub invariant-loop-lane : goal.invariant-loop-lane
invariant-loop-lane g l = Appends (g.K.Sink.held l.initial.sink) (g.K.Sink.held l.sink) (flat_map (tap_bytes l.file.order) (take l.lane-index l.lanes))
    × (g.K.Sink.faults l.initial.sink ≤ g.K.Sink.faults l.sink)
