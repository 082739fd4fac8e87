use Rattle.std.proofs.Common.{List, subst}
use Rattle.std.specs.Prelude.{OnOk, OnErr}
use Rattle.std.specs.Io.KnownBytes.{Appends}
use Rattle.off_io.specs.Content.{AppendsPrefix}
use Rattle.pcap_io.specs.Capture.{Packet}
use Rattle.offload_model.specs.Merged.{merged_of}
use Rattle.records.specs.Records.{item_bytes}
use Rattle.records.proofs.InPlace.{alone_is, inside, is_slot, knows_alone}
use Rattle.records.proofs.in_place.write_run.Goals as goal

pub bounds-packets-run : goal.bounds-packets-run
bounds-packets-run g c = inside c.args.packets.now c.args.next.now c.args.run.now c.requires.run

pub write_alone-requires-clause-slot : goal.write_alone-requires-clause-slot
write_alone-requires-clause-slot g c = is_slot c.args.packets.now c.args.next.now c.args.run.now c.requires.run c.index-packets-run.result c.index-packets-run.is c.requires.slots

pub write_alone-requires-clause-run : goal.write_alone-requires-clause-run
write_alone-requires-clause-run g c =
    knows_alone c.args.packets.now c.args.next.now c.args.run.now c.requires.run c.index-packets-run.result c.index-packets-run.is c.if-run-eq0.true

pub returns-then-run-eq0-clause-ok : goal.returns-then-run-eq0-clause-ok
returns-then-run-eq0-clause-ok g c =
    subst (λ (z : List Packet). OnOk c.write_alone.result (Appends (g.K.Sink.held c.args.sink.now) (g.K.Sink.held c.write_alone.new.sink) (item_bytes c.args.file.now.order c.args.lane (merged_of z))))
    (alone_is c.args.packets.now c.args.next.now c.args.run.now c.requires.run c.index-packets-run.result c.index-packets-run.is c.if-run-eq0.true) c.write_alone.ensures.writes.ok

pub returns-then-run-eq0-clause-err : goal.returns-then-run-eq0-clause-err
returns-then-run-eq0-clause-err g c =
    subst (λ (z : List Packet). OnErr c.write_alone.result (AppendsPrefix (g.K.Sink.held c.args.sink.now) (g.K.Sink.held c.write_alone.new.sink) (item_bytes c.args.file.now.order c.args.lane (merged_of z))))
    (alone_is c.args.packets.now c.args.next.now c.args.run.now c.requires.run c.index-packets-run.result c.index-packets-run.is c.if-run-eq0.true) c.write_alone.ensures.writes.err
