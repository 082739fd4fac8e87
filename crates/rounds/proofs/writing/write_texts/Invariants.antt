use Rattle.std.proofs.Common.{◌≤◌, take}
use Rattle.std.specs.List.{flat_map}
use Rattle.std.specs.Io.KnownBytes.{Appends}
use Rattle.rounds.specs.Lanes.{text_bytes}
use Rattle.rounds.proofs.writing.write_texts.Given as goal

abbrev pub invariant-loop-i : goal.invariant-loop-i
invariant-loop-i g l = Appends (g.K.Sink.held l.initial.sink) (g.K.Sink.held l.sink) (flat_map (text_bytes l.file.order l.tap) (take l.i l.texts))
    × (g.K.Sink.faults l.initial.sink ≤ g.K.Sink.faults l.sink)
