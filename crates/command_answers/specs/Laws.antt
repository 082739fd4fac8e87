-- Merging and then segmenting.
use Rattle.std.specs.Prelude.{ℕ, ◌^◌, ◌≤◌, List, length}
use Rattle.pcap_io.specs.declared.heads.Link.TheVariants.{Ethernet}
use Rattle.pcap_io.specs.Capture.{reads}
use Rattle.offload_model.specs.Laws.{InBytes}
use Rattle.offload_model.specs.Tested.{segmented_of}
use Rattle.offload_model.specs.CaptureLaws.{BringsBack}
use Rattle.offload_model.specs.Captured.{AreOptions}
use Rattle.offload_model.specs.Passing.{HasFileHead}
use Rattle.offload_model.specs.PassingLaws.{written_of}
use Rattle.offload_model.specs.Written.{Options, records_of}

-- What `merge` writes of a capture is given to `segment`: what that writes is read to its end, and holds each flow's
-- packets of the first capture, in order, with their bytes and original lengths. A capture has 2^32 records at most,
-- which the windows of taps could exceed.
abbrev pub EveryFlowComesBack : Type 0
EveryFlowComesBack =
    (o : Options) (given : List ℕ)
    → AreOptions o
    → InBytes given
    → HasFileHead Ethernet given
    → (1 ≤ o.taps → length (records_of o (reads Ethernet given).packets) ≤ 2 ^ 32)
    → BringsBack (reads Ethernet given).packets (reads Ethernet (segmented_of (written_of o given)))
