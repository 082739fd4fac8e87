-- Packets of one queue that are merged.
use Rattle.std.proofs.Common.{ℕ, ◌+◌, List, [], ◌∷◌, arith}
use Rattle.pcap_io.specs.Capture.{Packet}
use Rattle.frame_runs.specs.Engine.{DoRise}
use Rattle.lanes.specs.Packets.{RiseFrom}

-- numbers that rise from some number on rise
pub do_rise : (k : ℕ) (ps : List Packet) → RiseFrom k ps → DoRise ps
do_rise k [] h = tt
do_rise k (p ∷ []) h = tt
do_rise k (p ∷ q ∷ ps) h = (omega (arith, h.1.0), do_rise (p.number + 1) (q ∷ ps) h.1)
