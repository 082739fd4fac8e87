-- What holds of what stands on the wire.
use Rattle.std.specs.Prelude.{◌≡◌, ℕ, Bool, true, false, Some, [], ◌∷◌, List, length, drop}
use Rattle.frame_layout.specs.Shape.{Layout, shape_of}
use Rattle.frame_layout.specs.Headers.{AtHeaders}
use Rattle.frame_layout.specs.Candidate.{IsLengthRight, AreSumsRight}
use Rattle.pcap_io.specs.Capture.{Packet}
use Rattle.offload_model.specs.Laws.{InBytes}
use Rattle.offload_model.specs.Captured.{IsCaptured}
use Rattle.offload_model.specs.Mergeable.{IsMergeable, payloads_of}
use Rattle.offload_model.specs.Merged.{frame_of_run, layout_of}
use Rattle.wire_model.specs.declared.wiring.Wiring.{Wiring}
use Rattle.wire_model.specs.Filling.{filled_of, is_whole, packet_fates, wrong_in}
use Rattle.wire_model.specs.Wire.{cut_of, is_cut, wire_of}

-- a frame of this layout has right lengths and sums, and this length
pub record IsRight (layout : Layout) (size : ℕ) (f : List ℕ) : Type 0 where
  pub lengths : AtHeaders (IsLengthRight f) layout.headers
  pub sums : AreSumsRight f layout.headers
  pub long : length f ≡ size

-- a packet that was captured whole, has a shape and right lengths, and of which no sum stays wrong, is right once it is
-- filled
abbrev pub FilledIsRight : Type 0
FilledIsRight =
    (all : Bool) (p : Packet) (layout : Layout)
    → InBytes p.frame
    → shape_of p.frame ≡ Some layout
    → is_whole layout p ≡ true
    → wrong_in (packet_fates all p) ≡ 0
    → IsRight layout (length p.frame) (filled_of all p).frame

-- where all sums are wanted, none stays wrong
abbrev pub AllAreFilled : Type 0
AllAreFilled = (p : Packet) → wrong_in (packet_fates true p) ≡ 0

-- a packet whose sums are right stays as it is
abbrev pub RightStays : Type 0
RightStays =
    (o : Wiring) (p : Packet) (layout : Layout)
    → InBytes p.frame
    → shape_of p.frame ≡ Some layout
    → AreSumsRight p.frame layout.headers
    → is_cut o.mss p ≡ false
    → wire_of o p ≡ p ∷ []

-- and so does one that has no shape, was cut short or has a wrong length
abbrev pub OthersPass : Type 0
OthersPass =
    (o : Wiring) (p : Packet)
    → ((layout : Layout) → shape_of p.frame ≡ Some layout → is_whole layout p ≡ false)
    → is_cut o.mss p ≡ false
    → wire_of o p ≡ p ∷ []

-- ---- a packet that is cut

-- its segments may be merged: so each has right lengths and sums
abbrev pub CutIsMergeable : Type 0
CutIsMergeable = (mss : ℕ) (p : Packet) → IsCaptured p → is_cut mss p ≡ true → IsMergeable (cut_of mss p)

-- and they carry its payload, each byte once and in order
abbrev pub PayloadStays : Type 0
PayloadStays =
    (mss : ℕ) (p : Packet)
    → IsCaptured p
    → is_cut mss p ≡ true
    → payloads_of (layout_of p.frame) (cut_of mss p) ≡ drop (layout_of p.frame).payload_at p.frame

-- and what they are merged to is its frame again
abbrev pub CutComesBack : Type 0
CutComesBack =
    (mss : ℕ) (p : Packet)
    → IsCaptured p
    → is_cut mss p ≡ true
    → frame_of_run (layout_of p.frame) (cut_of mss p) ≡ p.frame

-- a packet stays one that can be captured once it is filled, so these hold of what is written of it
abbrev pub FilledIsCaptured : Type 0
FilledIsCaptured = (all : Bool) (p : Packet) → IsCaptured p → IsCaptured (filled_of all p)
