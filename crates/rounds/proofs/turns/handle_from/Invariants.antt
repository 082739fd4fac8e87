use Rattle.std.proofs.Common.{◌≡◌, ℕ, ◌≤◌, ◌+◌, ◌-◌, ◌^◌, List, length}
use Rattle.block_pool.specs.PoolState.{weighed}
use Rattle.pcap_io.specs.Places.{IsReady}
use Rattle.pcap_io.specs.declared.heads.Link.TheVariants.{Ethernet}
use Rattle.rounds.specs.declared.round_stages.RoundRead.{RoundRead}
use Rattle.rounds.specs.Merging.{options_of}
use Rattle.rounds.specs.Handled.{IsReadyAt, Rests, Went}
use Rattle.rounds.specs.Reads.{reader_at, Reads}
use Rattle.rounds.proofs.Rows.{AllGo}
use Rattle.rounds.proofs.turns.handle_from.Given as goal

abbrev pub invariant-rounds : goal.invariant-rounds
invariant-rounds g l = record {
  got : List RoundRead;
  reads : Reads l.initial.rounds.blocks l.initial.rounds.budget (reader_at g.S.Source.left g.S.Source.faults l.initial.reader l.initial.rounds.taken) got
      (reader_at g.S.Source.left g.S.Source.faults l.reader l.rounds.taken);
  go : AllGo got;
  went : Went (g.H.RoundHandler.did l.handler (options_of l.initial.rounds)) l.initial.number l.initial.into l.into got;
  number : l.number ≡ l.initial.number + length got;
  counted : l.number ≤ l.reader.place.number;
  start : IsReadyAt (g.H.RoundHandler.ready (options_of l.initial.rounds) l.initial.rounds.keep) l.reader.place.number l.into;
  rests : Rests l.initial.rounds l.rounds (reader_at g.S.Source.left g.S.Source.faults l.initial.reader l.initial.rounds.taken)
      (reader_at g.S.Source.left g.S.Source.faults l.reader l.rounds.taken);
  named : (h : ℕ → ℕ) → weighed h l.rounds.stock ≡ weighed h l.initial.rounds.stock;
  link : l.reader.place.link ≡ Ethernet;
  ready : IsReady l.reader.place;
  same : l.reader.source.ghost_name ≡ l.initial.reader.source.ghost_name;
}

abbrev pub decreases-rounds : goal.decreases-rounds
decreases-rounds g l = 2 ^ 32 + 1 - l.reader.place.number
