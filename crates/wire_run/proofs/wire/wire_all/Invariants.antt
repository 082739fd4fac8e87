use Rattle.std.proofs.Common.{◌≡◌, ◌≤◌, ◌+◌, ◌-◌, ◌^◌}
use Rattle.off_io.specs.Told.{Told}
use Rattle.pcap_io.specs.declared.heads.Link.TheVariants.{Ethernet}
use Rattle.pcap_io.specs.Places.{IsReady}
use Rattle.wire_run.specs.Wired.{Wired, CountedThem}
use Rattle.wire_run.proofs.wire.wire_all.Given as goal

abbrev pub invariant-records : goal.invariant-records
invariant-records g l =
    Told (g.S.Source.left l.initial.reader.source.now) (g.S.Source.left l.reader.source.now)
    (Wired l.options.blocks l.options.wiring l.round l.initial.reader.place l.reader.place (g.K.Sink.held l.initial.sink) (g.K.Sink.held l.sink))
    × Told (g.S.Source.left l.initial.reader.source.now) (g.S.Source.left l.reader.source.now)
    (CountedThem l.options.wiring l.initial.counts l.counts l.initial.reader.place l.reader.place)
    × (l.reader.place.link ≡ Ethernet)
    × (l.reader.place.number ≡ l.round)
    × IsReady l.reader.place
    × (l.run.blocks ≡ l.options.blocks)
    × (l.run.home ≡ l.run.blocks)
    × (l.reader.source.ghost_name ≡ l.initial.reader.source.ghost_name)
    × (g.S.Source.faults l.initial.reader.source.now ≤ g.S.Source.faults l.reader.source.now)
    × (g.K.Sink.faults l.initial.sink ≤ g.K.Sink.faults l.sink)

abbrev pub decreases-records : goal.decreases-records
decreases-records g l = 2 ^ 32 + 1 - l.reader.place.number
