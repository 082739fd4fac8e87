use Rattle.std.proofs.Common.{◌≤◌, take, map}
use Rattle.std.specs.List.{flat_map}
use Rattle.std.specs.Io.KnownBytes.{Appends}
use Rattle.offload_model.specs.Merged.{merged_of}
use Rattle.frame_runs.specs.declared.run.Run.{Run}
use Rattle.gro.specs.Slots.{packet_of}
use Rattle.frame_runs.specs.Chains.{run_of}
use Rattle.records.specs.Records.{item_bytes}
use Rattle.records.proofs.in_place.write_runs.Given as goal

abbrev pub invariant-loop-run : goal.invariant-loop-run
invariant-loop-run g l =
    Appends (g.K.Sink.held l.initial.sink) (g.K.Sink.held l.sink)
    (flat_map (λ (run : Run). item_bytes l.file.order l.lane (merged_of (run_of (map packet_of l.packets) l.engine.next.items run))) (take l.run-index l.engine.runs.items))
    × (g.K.Sink.faults l.initial.sink ≤ g.K.Sink.faults l.sink)
