use Rattle.std.proofs.Common.{◌≡◌, drop}
use Rattle.frame_layout.specs.Headers.{all_headers}
use Rattle.frame_runs.specs.Lent.{packet_of}
use Rattle.frame_causes.specs.Asks.{asks}
use Rattle.frame_causes.proofs.asked.are_met.Given as goal

abbrev pub invariant-loop-header : goal.invariant-loop-header
invariant-loop-header l =
    all_headers (asks l.asked l.layout (packet_of l.first) (packet_of l.second)) (drop l.header-index l.headers)
    ≡ all_headers (asks l.asked l.layout (packet_of l.first) (packet_of l.second)) l.headers
