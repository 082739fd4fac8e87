-- What cutting a merged frame comes to.
use Rattle.std.specs.Prelude.{◌≡◌, ℕ, ◌<◌, ◌≤◌, List, map}
use Rattle.std.specs.List.{AllByRecursion}
use Rattle.net_bytes.specs.Bytes.{byte}
use Rattle.pcap_io.specs.Capture.{Packet}
use Rattle.offload_model.specs.Captured.{AreCaptured}
use Rattle.offload_model.specs.declared.limits.Limits.{Limits}
use Rattle.offload_model.specs.Merged.{frame_at, merged_of}
use Rattle.offload_model.specs.Segments.{IsLawfulSuper}
use Rattle.frame_bursts.specs.Burst.{frames_of, Merges}
use Rattle.frame_bursts.specs.declared.link.Link.TheVariants.{Ethernet}
use Rattle.frame_bursts.specs.declared.told.BurstRun.{BurstRun}
use Rattle.frame_cuts.specs.Cuts.{bytes_of, cut_head, whole, Cuts, MayBeCut}
use Rattle.frame_cuts.specs.declared.cut.CutSegment.{CutSegment}

abbrev pub merged_frame : List Packet → List ℕ
merged_frame run = (merged_of run).packet.frame

-- the merged frame of a run may be cut by the numbers that are told of the run, and however it is cut by these the
-- segments are the run's frames, byte for byte and in order
pub record ComesApart (r : BurstRun) (run : List Packet) : Type 0 where
  pub may : MayBeCut r.m (merged_frame run)
  pub lawful : IsLawfulSuper (cut_head r.n r.m r.modes) (whole (merged_frame run))
  pub frames : (cut : List CutSegment) → Cuts r.m r.modes (merged_frame run) cut
      → map (bytes_of (merged_frame run)) cut ≡ map (λ (p : Packet). p.frame) run

-- each merged frame of a burst
abbrev pub MergedComesApart : Type 0
MergedComesApart =
    (limits : Limits) (ps : List Packet) (next : List ℕ) (told : List BurstRun)
    → AreCaptured ps
    → Merges Ethernet limits ps next told
    → AllByRecursion (λ r. 2 ≤ r.n → ComesApart r (frames_of ps next r)) told

-- the merged frame of a run begins with the 14 bytes that its first frame begins with
abbrev pub HasItsEthernet : List Packet → Type 0
HasItsEthernet run = (k : ℕ) → k < 14 → byte (merged_frame run) k ≡ byte (frame_at run 0) k

-- so that of each run of a burst
abbrev pub EthernetStays : Type 0
EthernetStays =
    (limits : Limits) (ps : List Packet) (next : List ℕ) (told : List BurstRun)
    → AreCaptured ps
    → Merges Ethernet limits ps next told
    → AllByRecursion (λ r. 2 ≤ r.n → HasItsEthernet (frames_of ps next r)) told
