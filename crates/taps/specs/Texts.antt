-- What a tap reads of packets: of each one window, where it isn't empty.
use Rattle.std.specs.Prelude.{ℕ, ◌≡◌, ◌≤◌, ◌<◌, List, [], ◌∷◌, length, map, slice_range}
use Rattle.std.specs.List.{flat_map}
use Rattle.pcap_io.specs.Capture.{Packet}
use Rattle.offload_model.specs.Written.{window_of, window_record, windows_of}
use Rattle.taps.specs.declared.texts.Span.{Span}

-- a window of a packet: its number, time and original length, and the bytes that were read
abbrev pub text_by : Packet → List ℕ → List Packet
text_by p [] = []
text_by p (b ∷ bytes) = record p { frame = b ∷ bytes } ∷ []

-- what tap t reads of one packet
abbrev pub text_of : ℕ → ℕ → Packet → List Packet
text_of snap t p = text_by p (window_of snap t p.frame)

-- and of all packets, in their order
abbrev pub texts_of : ℕ → ℕ → List Packet → List Packet
texts_of snap t ps = flat_map (text_of snap t) ps

-- the record that is written of a text
abbrev pub record_of_text : ℕ → Packet → Packet
record_of_text t x = window_record t x x.frame

-- ---- in memory: all windows stand in one run of bytes

abbrev pub text_at : List ℕ → Span → Packet
text_at bytes s = record {
  number = s.number;
  sec = s.sec;
  frac = s.frac;
  original = s.original;
  frame = slice_range
      bytes s.from s.to;
}

abbrev pub IsWithin : List ℕ → Span → Type 0
IsWithin bytes s = (s.from < s.to) × (s.to ≤ length bytes)

-- ---- laws

-- the records of the texts are the tap's windows in what merging writes
abbrev pub TextsAreWindows : Type 0
TextsAreWindows = (snap t : ℕ) (ps : List Packet) → map (record_of_text t) (texts_of snap t ps) ≡ windows_of snap t ps
