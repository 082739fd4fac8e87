use Rattle.std.proofs.Common.{◌≡◌, ◌+◌, ◌-◌, ◌^◌}
use Rattle.off_io.specs.Told.{Told}
use Rattle.pcap_io.specs.Places.{IsReady}
use Rattle.pcap_io.specs.declared.heads.Link.TheVariants.{Offload}
use Rattle.offload_c.proofs.Records.{Ahead}
use Rattle.offload_c.proofs.segment_call.segment_records.Given as goal

abbrev pub invariant-records : goal.invariant-records
invariant-records g l = record {
  told : Told (g.S.Source.left l.initial.reader.source.now) (g.S.Source.left l.reader.source.now)
      (Ahead l.initial.run.blocks l.initial.reader.place l.reader.place (g.K.Sink.held l.initial.sink) (g.K.Sink.held l.sink));
  link : l.reader.place.link ≡ Offload;
  ready : IsReady l.reader.place;
  home : l.run.home ≡ l.run.blocks;
  blocks : l.run.blocks ≡ l.initial.run.blocks;
  same : l.reader.source.ghost_name ≡ l.initial.reader.source.ghost_name;
}

abbrev pub decreases-records : goal.decreases-records
decreases-records g l = 2 ^ 32 + 1 - l.reader.place.number
