-- Where a merged frame's last headers stand, and the sum that a device begins with.
use Rattle.std.specs.Prelude.{◌≡◌, ℕ, ◌-◌, Some, List, length, slice_index_or}
use Rattle.inet_sum.specs.Sum.{fold_of}
use Rattle.frame_layout.specs.Candidate.{pseudo_header}
use Rattle.frame_layout.specs.Shape.{Layout, shape_of}
use Rattle.frame_layout.specs.declared.layout.Header.{Header}
use Rattle.frame_layout.specs.declared.layout.Layer.{Layer}
use Rattle.frame_layout.specs.declared.layout.Layer.TheVariants.{Ethernet, Tcp, Udp}

-- the header so many places from the end of a list
abbrev pub from_end : List Header → ℕ → Header
from_end hs back = slice_index_or hs (length hs - back) (record { layer = Ethernet; at = 0 })

-- what an IP header calls what it carries (RFC 790)
abbrev pub protocol_of : Layer → ℕ
protocol_of Tcp = 6
protocol_of Udp = 17
protocol_of _ = 0

-- the last header of a layout and the IP header before it, and of both the pseudo header's sum, not complemented (RFC
-- 9293, section 3.1; RFC 8200, section 8.1)
pub record ArePlaces (layout : Layout) (frame : List ℕ) (ip_at leaf_at leaf pseudo : ℕ) : Type 0 where
  pub ip : ip_at ≡ (from_end layout.headers 2).at
  pub last : leaf_at ≡ (from_end layout.headers 1).at
  pub protocol : leaf ≡ protocol_of (from_end layout.headers 1).layer
  pub sum : pseudo
      ≡ fold_of (pseudo_header frame (from_end layout.headers 2).layer ip_at leaf (length frame - leaf_at))

-- the same of a frame with the headers of `first`
abbrev pub HasPlaces : List ℕ → List ℕ → ℕ → ℕ → ℕ → ℕ → Type 0
HasPlaces first frame ip_at leaf_at leaf pseudo =
    (layout : Layout) × ((shape_of first ≡ Some layout) × ArePlaces layout frame ip_at leaf_at leaf pseudo)

abbrev pub AreZeros : ℕ → ℕ → ℕ → ℕ → Type 0
AreZeros ip_at leaf_at leaf pseudo = (ip_at ≡ 0) × ((leaf_at ≡ 0) × ((leaf ≡ 0) × (pseudo ≡ 0)))
