-- Packets as they were read are short enough to be written.
use Rattle.std.proofs.Common.{◌+◌, ◌^◌, ◌<◌, List, [], ◌∷◌, arith}
use Rattle.std.specs.List.{AllByRecursion}
use Rattle.pcap_io.specs.Capture.{Packet}
use Rattle.pcap_io.specs.Limits.{off_head2_size}
use Rattle.offload_model.specs.Captured.{IsCaptured}
use Rattle.rounds.specs.Held.{Fits}

pub captured_fit : (ps : List Packet) → AllByRecursion IsCaptured ps → AllByRecursion Fits ps
captured_fit [] c = tt
captured_fit (p ∷ ps) c = ((c.0.short, c.0.original), captured_fit ps c.1)

-- their original lengths fit their field behind an offload header
pub originals_fit : (ps : List Packet) → AllByRecursion Fits ps → AllByRecursion (λ (p : Packet). p.original + off_head2_size < 2 ^ 32) ps
originals_fit [] fit = tt
originals_fit (p ∷ ps) fit = (omega (arith, fit.0.1), originals_fit ps fit.1)
