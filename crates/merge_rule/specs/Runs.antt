-- What merging knows of a run of packets.
use Rattle.std.specs.Prelude.{◌≡◌, ◌==◌, ◌&&◌, ◌⊎◌, ℕ, ◌+◌, ◌-◌, ◌<◌, ◌≤◌, Bool, true, false, Option, Some, None, List}
use Rattle.std.specs.Prelude.{length, drop}
use Rattle.pcap_io.specs.Limits.{most_frame}
use Rattle.net_bytes.specs.Bytes.{byte}
use Rattle.inet_sum.specs.Stands.{FoldAndLength, StandsFor}
use Rattle.pcap_io.specs.Capture.{Packet}
use Rattle.frame_layout.specs.Shape.{Layout, shape_of}
use Rattle.ip_headers.specs.Ip4.{identification}
use Rattle.frame_layout.specs.declared.layout.Header.{Header}
use Rattle.frame_layout.specs.Headers.{AtHeaders, all_headers, AreLaid, ip_count}
use Rattle.offload_model.specs.Tests.{is_ack_alone}
use Rattle.frame_layout.specs.Candidate.{IsCandidate}
use Rattle.offload_model.specs.Each.{Each}
use Rattle.offload_model.specs.Mergeable.{IsAckAlone, AreConsecutive, payloads_of}
use Rattle.offload_model.specs.Merged.{frame_at, is_fixed_in, modes_of}
use Rattle.frame_layout.specs.Segment.{HasFlags}
use Rattle.merge_rule.specs.declared.rule.Progress.{Progress}

-- what a run of this layout, whose first frame is `first`, has come to: `is_open` where each packet is as long as the
-- first and has ACK alone, so that there may be one more, and `total` is the length of the merged frame. From the
-- second packet on `modes` say which identifications stay.
pub record IsProgress (layout : Layout) (first : List ℕ) (run : List Packet) (is_open : Bool)
    (total modes : ℕ) : Type 0 where
  pub line : AreConsecutive layout first run
  pub full : is_open ≡ true → Each (λ i p. length p.frame ≡ length first) run
  pub flags : is_open ≡ true → Each (λ i p. AtHeaders (IsAckAlone p.frame) layout.headers) run
  pub shut : is_open ≡ false → Each (λ i p. length p.frame ≡ length first) run
      → Each (λ i p. AtHeaders (IsAckAlone p.frame) layout.headers) run → ⊥
  pub long : total ≡ layout.payload_at + length (payloads_of layout run)
  pub staying : 2 ≤ length run → modes ≡ modes_of (is_fixed_in run) layout.headers

-- no layout makes it a candidate
abbrev pub IsNoCandidate : List ℕ → ℕ → Type 0
IsNoCandidate f original = (layout : Layout) → shape_of f ≡ Some layout → IsCandidate f original layout → ⊥

-- a candidate of this layout, no longer than a frame of a capture, the sum of its payload, and its control bits
pub record IsCandidateOf (f : List ℕ) (original : ℕ) (layout : Layout) (sum : FoldAndLength) (bits : ℕ) : Type 0 where
  pub shape : shape_of f ≡ Some layout
  pub candidate : IsCandidate f original layout
  pub short : length f ≤ most_frame
  pub payload : StandsFor sum (drop layout.payload_at f)
  pub flags : AtHeaders (HasFlags bits f) layout.headers
  pub in_bytes : (k : ℕ) → byte f k < 256

-- there is a layout exactly where the frame is a candidate
abbrev pub IsJudged : List ℕ → ℕ → Option Layout → FoldAndLength → ℕ → Type 0
IsJudged f original None sum bits = IsNoCandidate f original
IsJudged f original (Some layout) sum bits = IsCandidateOf f original layout sum bits

-- the layout, where there is one, is the frame's
abbrev pub IsShaped : Option Layout → List ℕ → Type 0
IsShaped None f = Unit {0}
IsShaped (Some layout) f = shape_of f ≡ Some layout

-- a run that begins with a candidate of this layout, the sum of its payloads, its last packet's control bits, and what
-- it has come to
pub record IsRunOf (layout : Layout) (sum : FoldAndLength) (bits : ℕ) (state : Progress) (first : Packet)
    (run : List Packet) : Type 0 where
  pub shape : shape_of first.frame ≡ Some layout
  pub candidate : IsCandidate first.frame first.original layout
  pub in_bytes : (k : ℕ) → byte first.frame k < 256
  pub payload : StandsFor sum (payloads_of layout run)
  pub flags : AtHeaders (HasFlags bits (frame_at run (length run - 1))) layout.headers
  pub progress : IsProgress layout first.frame run state.is_open state.total state.modes

-- a run that begins with no candidate is that packet alone
abbrev pub IsRunBy : Option Layout → FoldAndLength → ℕ → Progress → Packet → List Packet → Type 0
IsRunBy None sum bits state first run = (length run ≡ 1) × IsNoCandidate first.frame first.original
IsRunBy (Some layout) sum bits state first run = IsRunOf layout sum bits state first run

-- a layout as shapes have it
pub record IsPlaced (layout : Layout) : Type 0 where
  pub laid : AreLaid 0 layout.headers layout.payload_at
  pub few : ip_count layout.headers ≤ 2

-- what a run of one packet has come to
abbrev pub IsFirstProgress : Option Layout → List ℕ → Progress → Type 0
IsFirstProgress None f state = Unit {0}
IsFirstProgress (Some layout) f state =
    (state.is_open ≡ all_headers (is_ack_alone f) layout.headers) × (state.total ≡ length f) × (state.modes ≡ 0)

-- either the second packet settles the modes, or they stay
abbrev pub AreNextModes : List ℕ → ℕ → List ℕ → List Header → ℕ → ℕ → Type 0
AreNextModes first more next hs old new =
    ((more ≡ 0) × (new ≡ modes_of (λ at. identification next at == identification first at) hs))
    ⊎ ((1 ≤ more) × (new ≡ old))

-- what a run of a first packet and `more` others comes to with the frame `next`
abbrev pub IsNextProgress : Option Layout → List ℕ → ℕ → List ℕ → Progress → Progress → Type 0
IsNextProgress None first more next old new = Unit {0}
IsNextProgress (Some layout) first more next old new =
    (new.is_open ≡ (length next == length first && all_headers (is_ack_alone next) layout.headers))
    × (new.total ≡ old.total + (length next - layout.payload_at))
    × AreNextModes first more next layout.headers old.modes new.modes
