-- What segmenting took, behind a file header.
use Rattle.std.proofs.Common.{◌-◌, ℕ, List, Option, Some, None, Ok}
use Rattle.off_io.specs.Told.{Told}
use Rattle.pcap_io.specs.declared.heads.FileHead.{FileHead}
use Rattle.pcap_io.specs.declared.heads.Link.{Link}
use Rattle.pcap_io.specs.Capture.{Packet, reads}
use Rattle.pcap_io.specs.Places.{found_at, first_place}
use Rattle.pcap_io.specs.Reading.{GivesFile}
use Rattle.segmenting.specs.SegmentState.{SegmentState}
use Rattle.segment_command.specs.Leaving.{HasSegmented}
use Rattle.command_answers.proofs.Used.{took_whole}

pub segmented_whole : (link : Link) (need : List Packet → ℕ) (blocks : ℕ) (left : Option SegmentState) (a b c : Option (List ℕ)) (file : FileHead) → Told a b (GivesFile link (Ok file))
    → HasSegmented blocks (λ rest. need (found_at (first_place file link 0) rest).packets) left b c
    → HasSegmented blocks (λ given. need (reads link given).packets) left a c
segmented_whole link need blocks (Some run) a b c file told has = (has.0, has.1, took_whole link need run.taken a b c file told has.2)
segmented_whole link need blocks None a b c file told has = absurd has
