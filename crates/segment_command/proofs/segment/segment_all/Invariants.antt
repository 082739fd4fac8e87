use Rattle.std.proofs.Common.{◌≡◌, ℕ, ◌≤◌, ◌+◌, ◌-◌, ◌^◌}
use Rattle.block_pool.specs.PoolState.{weighed}
use Rattle.off_io.specs.Told.{Told}
use Rattle.pcap_io.specs.declared.heads.Link.TheVariants.{Offload}
use Rattle.pcap_io.specs.Places.{IsReady}
use Rattle.segment_command.specs.Segmenting.{Segmented, TookThem}
use Rattle.segment_command.proofs.segment.segment_all.Given as goal

abbrev pub invariant-records : goal.invariant-records
invariant-records g l =
    Told (g.S.Source.left l.initial.reader.source.now) (g.S.Source.left l.reader.source.now)
    (Segmented l.blocks l.round l.initial.reader.place l.reader.place (g.K.Sink.held l.initial.sink) (g.K.Sink.held l.sink))
    × Told (g.S.Source.left l.initial.reader.source.now) (g.S.Source.left l.reader.source.now)
    (TookThem l.initial.run.taken l.run.taken l.initial.reader.place l.reader.place)
    × (l.reader.place.link ≡ Offload)
    × (l.reader.place.number ≡ l.round)
    × IsReady l.reader.place
    × (l.run.blocks ≡ l.blocks)
    × (l.run.home ≡ l.run.blocks)
    × (l.reader.source.ghost_name ≡ l.initial.reader.source.ghost_name)
    × (g.S.Source.faults l.initial.reader.source.now ≤ g.S.Source.faults l.reader.source.now)
    × (g.K.Sink.faults l.initial.sink ≤ g.K.Sink.faults l.sink)
    × ((h : ℕ → ℕ) → weighed h l.run.stock ≡ weighed h l.initial.run.stock)

abbrev pub decreases-records : goal.decreases-records
decreases-records g l = 2 ^ 32 + 1 - l.reader.place.number
