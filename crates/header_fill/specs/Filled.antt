-- Headers whose lengths and sums follow from the frame that they stand in.
use Rattle.std.specs.Prelude.{◌≡◌, ℕ, zero, suc, ◌+◌, ◌≤◌, List, ◌++◌, length, slice_index_or}
use Rattle.net_bytes.specs.Bytes.{byte}
use Rattle.frame_layout.specs.Headers.{AtHeaders, size, lengths, sums, IsOutsideOf}
use Rattle.frame_layout.specs.Candidate.{IsLengthRight, AreSumsRight}
use Rattle.frame_layout.specs.declared.layout.Header.{Header}
use Rattle.frame_layout.specs.declared.layout.Layer.{Layer}
use Rattle.frame_layout.specs.declared.layout.Layer.TheVariants.{Ethernet}
use Rattle.offload_model.specs.Mergeable.{AreUdpSumsAlike}

-- the place lies outside the fields of a header that follow from the rest of the frame: its length and its sum
abbrev pub IsOutsideFilled : ℕ → Layer → ℕ → Type 0
IsOutsideFilled k layer at = IsOutsideOf (lengths layer ++ sums layer) k at

-- the frame `new` is `old` with right lengths and right sums; UDP has a sum where it had one
pub record IsFilled (headers : List Header) (old new : List ℕ) : Type 0 where
  pub len : length new ≡ length old
  pub lengths : AtHeaders (IsLengthRight new) headers
  pub sums : AreSumsRight new headers
  pub udp_sums : AtHeaders (AreUdpSumsAlike new old) headers
  pub others : (k : ℕ) → AtHeaders (IsOutsideFilled k) headers → byte new k ≡ byte old k

-- the header stands within the first n bytes
abbrev pub IsInside : ℕ → Layer → ℕ → Type 0
IsInside n layer at = at + size layer ≤ n

-- the header before the one at a place of the list; before the first, an Ethernet header
abbrev pub header_before : List Header → ℕ → Header
header_before hs zero = record { layer = Ethernet; at = 0 }
header_before hs (suc i) = slice_index_or hs i (record { layer = Ethernet; at = 0 })
