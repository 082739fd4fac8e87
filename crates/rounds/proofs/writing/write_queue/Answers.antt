use Rattle.std.proofs.Common.{List, map, length, sym, subst, ◌+◌, ◌<◌, ◌^◌}
use Rattle.std.specs.Prelude.{OnOk, OnErr}
use Rattle.std.specs.List.{AllByRecursion, flat_map}
use Rattle.std.specs.Io.KnownBytes.{Appends}
use Rattle.off_io.specs.Content.{AppendsPrefix}
use Rattle.pcap_io.specs.Capture.{Packet}
use Rattle.pcap_io.specs.Limits.{off_head2_size}
use Rattle.offload_model.specs.Merged.{merged_of}
use Rattle.gro.specs.declared.slot.Slot.{Slot}
use Rattle.frame_runs.specs.Engine.{AreRuns, runs_of}
use Rattle.gro.specs.Slots.{packet_of, AreHeld}
use Rattle.records.specs.Records.{item_bytes}
use Rattle.rounds.proofs.Small.{originals_fit}
use Rattle.rounds.proofs.writing.write_queue.Goals as goal

pub write_runs-requires-clause-slots : goal.write_runs-requires-clause-slots
write_runs-requires-clause-slots g c = subst AreHeld (sym c.slots.ensures.slots) c.requires.small.1.held

pub write_runs-requires-clause-runs : goal.write_runs-requires-clause-runs
write_runs-requires-clause-runs g c =
    let l = c.args.lane.now in
    subst (λ (z : List Slot). AreRuns (map packet_of z) (length z) l.engine) (sym c.slots.ensures.slots) c.requires.small.1.are

pub write_runs-requires-clause-fit : goal.write_runs-requires-clause-fit
write_runs-requires-clause-fit g c =
    subst (λ (z : List Slot). AllByRecursion (λ (p : Packet). p.original + off_head2_size < 2 ^ 32) (map packet_of z)) (sym c.slots.ensures.slots)
    (originals_fit (map packet_of c.args.lane.now.packets.items) c.requires.small.2)

pub returns-clause-ok : goal.returns-clause-ok
returns-clause-ok g c =
    let l = c.args.lane.now in
    let w = c.write_runs in
    subst (λ (z : List Slot). OnOk w.result (Appends (g.K.Sink.held c.args.sink.now) (g.K.Sink.held w.new.sink)
    (flat_map (item_bytes c.args.file.now.order l.queue) (map merged_of (runs_of (map packet_of z) l.engine)))))
    c.slots.ensures.slots w.ensures.ok

pub returns-clause-err : goal.returns-clause-err
returns-clause-err g c =
    let l = c.args.lane.now in
    let w = c.write_runs in
    subst (λ (z : List Slot). OnErr w.result (AppendsPrefix (g.K.Sink.held c.args.sink.now) (g.K.Sink.held w.new.sink)
    (flat_map (item_bytes c.args.file.now.order l.queue) (map merged_of (runs_of (map packet_of z) l.engine)))))
    c.slots.ensures.slots w.ensures.err
