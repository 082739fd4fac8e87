-- What rounds took, behind a file header.
use Rattle.std.proofs.Common.{ℕ, List, Option, Some, None, Ok}
use Rattle.off_io.specs.Told.{Told}
use Rattle.pcap_io.specs.declared.heads.FileHead.{FileHead}
use Rattle.pcap_io.specs.declared.heads.Link.{Link}
use Rattle.pcap_io.specs.Capture.{Packet, reads}
use Rattle.pcap_io.specs.Places.{found_at, first_place}
use Rattle.pcap_io.specs.Reading.{GivesFile}
use Rattle.rounds.specs.RoundsState.{RoundsState}
use Rattle.command_rounds.specs.Leaving.{HasMerged}
use Rattle.command_answers.proofs.Used.{took_whole}

pub merged_whole : (link : Link) (need : List Packet → ℕ) (blocks : ℕ) (left : Option RoundsState) (a b c : Option (List ℕ)) (file : FileHead) → Told a b (GivesFile link (Ok file))
    → HasMerged blocks (λ rest. need (found_at (first_place file link 0) rest).packets) left b c
    → HasMerged blocks (λ given. need (reads link given).packets) left a c
merged_whole link need blocks (Some rounds) a b c file told has = (has.0, has.1, took_whole link need rounds.taken a b c file told has.2)
merged_whole link need blocks None a b c file told has = absurd has
