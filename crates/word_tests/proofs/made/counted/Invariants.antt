use Rattle.pcap_io.specs.Places.{IsReady}
use Rattle.word_tests.proofs.made.counted.Given as goal

abbrev pub invariant-loop : goal.invariant-loop
invariant-loop l = IsReady l.reader.place
