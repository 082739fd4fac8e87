use Rattle.std.proofs.Common.{◌≡◌, length}
use Rattle.pcap_io.specs.Places.{IsReady}
use Rattle.pcap_io.specs.Readers.{place_of}
use Rattle.pcap_io.specs.declared.heads.Link.TheVariants.{Ethernet}
use Rattle.offload_examples.proofs.steps.merging.time_pass.Given as goal

abbrev pub invariant-loop : goal.invariant-loop
invariant-loop l = record {
  home : length l.rounds.stock ≡ l.rounds.blocks;
  ready : IsReady (place_of l.reader);
  link : (place_of l.reader).link ≡ Ethernet;
}
