-- A merged frame, cut where it lies.
use Rattle.std.specs.Prelude.{◌≡◌, ℕ, ◌<◌, ◌≤◌, List, ◌++◌, length, map, take, drop}
use Rattle.pcap_io.specs.Capture.{Packet}
use Rattle.pcap_io.specs.Limits.{most_frame}
use Rattle.pcap_io.specs.declared.off_head.OffHead2.{OffHead2}
use Rattle.offload_model.specs.Segments.{segments_by, IsLawfulSuper}
use Rattle.frame_cuts.specs.declared.cut.CutSegment.{CutSegment}
use Rattle.frame_cuts.specs.declared.cut.CutRefused.{CutRefused}
use Rattle.frame_cuts.specs.declared.cut.CutRefused.TheVariants.{Usage, Unlawful, NoRoom}

-- a frame that was captured whole
abbrev pub whole : List ℕ → Packet
whole f = record { number = 0; sec = 0; frac = 0; original = length f; frame = f }

-- the offload header of a frame that is cut into n segments of m bytes
abbrev pub cut_head : ℕ → ℕ → ℕ → OffHead2
cut_head n m modes = record { version = 2; kind = 1; modes = modes; lane = 0; n = n; m = m; number = 0 }

-- a segment's bytes, whose payload lies in the frame
abbrev pub bytes_of : List ℕ → CutSegment → List ℕ
bytes_of f s = take s.headers_length s.headers ++ take s.length (drop s.at f)

-- the frame is a lawful one of so many segments of m bytes, and these are its segments, byte for byte and in order
pub record Cuts (m modes : ℕ) (f : List ℕ) (told : List CutSegment) : Type 0 where
  pub lawful : IsLawfulSuper (cut_head (length told) m modes) (whole f)
  pub segments : map (bytes_of f) told
      ≡ map (λ (p : Packet). p.frame) (segments_by (cut_head (length told) m modes) (whole f))

abbrev pub MayBeCut : ℕ → List ℕ → Type 0
MayBeCut m f = (1 ≤ m) × (length f ≤ most_frame)

-- when each refusal comes
abbrev pub Refuses : ℕ → ℕ → List ℕ → ℕ → CutRefused → Type 0
Refuses m modes f room Usage = MayBeCut m f → ⊥
Refuses m modes f room Unlawful = MayBeCut m f × ((n : ℕ) → IsLawfulSuper (cut_head n m modes) (whole f) → ⊥)
Refuses m modes f room NoRoom = (n : ℕ) × (IsLawfulSuper (cut_head n m modes) (whole f) × (room < n))
