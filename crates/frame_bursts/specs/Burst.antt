-- A burst of frames, and what merging it comes to.
use Rattle.std.specs.Prelude.{◌≡◌, ◌⊎◌, ℕ, ◌+◌, ◌-◌, ◌<◌, ◌≤◌}
use Rattle.std.specs.Prelude.{List, ◌∷◌, ◌++◌, length, map, drop, take, slice_index_or}
use Rattle.std.specs.List.{AllByRecursion}
use Rattle.pcap_io.specs.Capture.{Packet}
use Rattle.offload_model.specs.declared.limits.Limits.{Limits}
use Rattle.offload_model.specs.Merged.{frame_at, merged_of}
use Rattle.offload_model.specs.Rounds.{runs_within}
use Rattle.offload_model.specs.Written.{head_of, record_of}
use Rattle.offload_model.specs.Segments.{segments_of}
use Rattle.offload_model.specs.Captured.{AreCaptured, content}
use Rattle.frame_runs.specs.declared.lent.Lent.{Lent}
use Rattle.frame_runs.specs.declared.run.Run.{Run}
use Rattle.frame_runs.specs.Chains.{chain_of, packet_at, run_of, AreSharedOut}
use Rattle.frame_runs.specs.MergedRun.{payloads_behind}
use Rattle.frame_bursts.specs.Links.{framed}
use Rattle.frame_bursts.specs.Places.{AreZeros, HasPlaces}
use Rattle.frame_bursts.specs.declared.link.Link.{Link}
use Rattle.frame_bursts.specs.declared.link.Link.TheVariants.{Ethernet, RawIp}
use Rattle.frame_bursts.specs.declared.told.BurstRun.{BurstRun}
use Rattle.frame_bursts.specs.declared.burst.Refused.{Refused}
use Rattle.frame_bursts.specs.declared.burst.Refused.TheVariants.{Usage, Full, NoMemory, NoRoom}

-- frames that a capture may have, whose numbers rise
abbrev pub AreFrames : Link → List Lent → Type 0
AreFrames link frames = AreCaptured (map (framed link) frames)

-- what is merged: frames of a capture, not too many, into runs of a length that may be asked for
pub record AreLawful (link : Link) (limits : Limits) (fs : List Lent) : Type 0 where
  pub segs : (1 ≤ limits.segs) × (limits.segs ≤ 4096)
  pub few : length fs ≤ 65535
  pub frames : AreFrames link fs

-- room for an entry of each of n frames in both lists
abbrev pub HasRoom : ℕ → ℕ → ℕ → Type 0
HasRoom n next runs = (n ≤ next) × (n ≤ runs)

-- when each refusal comes
abbrev pub Refuses : Link → Limits → List Lent → ℕ → ℕ → Refused → Type 0
Refuses link limits frames next runs Usage = AreLawful link limits frames → ⊥
Refuses link limits frames next runs Full = ⊥
Refuses link limits frames next runs NoMemory = AreLawful link limits frames × HasRoom (length frames) next runs
Refuses link limits frames next runs NoRoom =
    AreLawful link limits frames × ((next < length frames) ⊎ (runs < length frames))

-- what is said of a run
pub record Says (r : BurstRun) (run : List Packet) : Type 0 where
  pub n : r.n ≡ (merged_of run).n
  pub m : r.m ≡ (merged_of run).m
  pub modes : r.modes ≡ (merged_of run).modes
  pub kind : r.kind ≡ (head_of 0 (merged_of run)).kind
  pub long : r.length ≡ length (merged_of run).packet.frame
  pub frame : take r.headers_length r.headers ++ payloads_behind r.headers_length run
      ≡ (merged_of run).packet.frame
  pub places : 2 ≤ r.n
      → HasPlaces (frame_at run 0) (merged_of run).packet.frame r.ip_at r.leaf_at r.leaf r.pseudo
  pub alone : r.n ≡ 1 → AreZeros r.ip_at r.leaf_at r.leaf r.pseudo

-- what is said of a run of packets that have no Ethernet header, but are merged as the frames `run`: the same, without
-- the 14 bytes of that header
pub record SaysRaw (r : BurstRun) (run : List Packet) : Type 0 where
  pub n : r.n ≡ (merged_of run).n
  pub m : r.m ≡ (merged_of run).m
  pub modes : r.modes ≡ (merged_of run).modes
  pub kind : r.kind ≡ (head_of 0 (merged_of run)).kind
  pub long : r.length ≡ length (merged_of run).packet.frame - 14
  pub frame : take r.headers_length r.headers ++ payloads_behind (r.headers_length + 14) run
      ≡ drop 14 (merged_of run).packet.frame
  pub places : 2 ≤ r.n → (ip leaf : ℕ)
      × HasPlaces (frame_at run 0) (merged_of run).packet.frame ip leaf r.leaf r.pseudo
      × (r.ip_at ≡ ip - 14) × (r.leaf_at ≡ leaf - 14)
  pub alone : r.n ≡ 1 → AreZeros r.ip_at r.leaf_at r.leaf r.pseudo

abbrev pub SaysOn : Link → BurstRun → List Packet → Type 0
SaysOn Ethernet r run = Says r run
SaysOn RawIp r run = SaysRaw r run

-- what is said of a run of an engine
pub record Told (link : Link) (ps : List Packet) (next : List ℕ) (run : Run) (r : BurstRun) : Type 0 where
  pub first : r.first ≡ run.first
  pub more : r.n ≡ run.more + 1
  pub says : SaysOn link r (run_of ps next run)

-- the frames of a run, by index: its first one, and those that `next` leads to
abbrev pub indices_of : List ℕ → BurstRun → List ℕ
indices_of next r = r.first ∷ chain_of next (r.n - 1) (slice_index_or next r.first 0)

abbrev pub frames_of : List Packet → List ℕ → BurstRun → List Packet
frames_of ps next r = map (packet_at ps) (indices_of next r)

-- the runs are the maximal mergeable runs within limits of each flow, in the order of their first frames, and what is
-- said of each is so; each frame is in one of them, once
pub record Merges (link : Link) (limits : Limits) (ps : List Packet) (next : List ℕ) (told : List BurstRun)
    : Type 0 where
  pub runs : map (frames_of ps next) told ≡ runs_within limits ps
  pub each : AllByRecursion (λ r. SaysOn link r (frames_of ps next r)) told
  pub once : AreSharedOut (length ps) (map (indices_of next) told)

-- the segments of a run's record are its frames, byte for byte and with their original lengths
abbrev pub ComesBack : List Packet → Type 0
ComesBack run = map content (segments_of (record_of 0 run)) ≡ map content run
