-- A place of a buffer's bytes, and what lies from there on.
use Rattle.std.specs.Prelude.{ℕ, zero, suc, ◌≡◌, ◌+◌, ◌-◌, ◌*◌, ◌≤◌, List, length, take, drop, min}
use Rattle.frags.specs.PieceList.{bytes_of}
use Rattle.skb.specs.SkbState.{SkbState, buffer_bytes}
use Rattle.segment_rule.specs.declared.segmentation.Segmentation.{Segmentation}
use Rattle.gso.specs.declared.place.Place.{Place}
use Rattle.gso.specs.declared.sums.Sums.{Sums}

-- the bytes of a buffer's slices from number i on, the head being the first
abbrev pub slices_from : SkbState → ℕ → List ℕ
slices_from s zero = buffer_bytes s
slices_from s (suc i) = bytes_of (drop i s.rest)

-- the bytes from a place on
abbrev pub bytes_at : SkbState → Place → List ℕ
bytes_at s p = drop p.at (slices_from s p.slice)

-- the place lies in its slice or at its end, and so many bytes are left from there on
pub record IsPlace (s : SkbState) (p : Place) : Type 0 where
  pub inside : p.at + length (bytes_of (drop p.slice s.rest)) ≤ length (slices_from s p.slice)
  pub left : p.left ≡ length (bytes_at s p)

-- how many steps there are at most to the end
abbrev pub steps_left : SkbState → Place → ℕ
steps_left s p = p.left + ((length s.rest + 1) - p.slice)

-- a merged frame that lies in a buffer, how it is cut, and the sums of its segments
pub record SegmentsState : Type 0 where
  pub skb : SkbState
  pub cut : Segmentation
  pub sums : Sums

-- where the payload of segment i begins
pub record IsPayloadPlace (s : SegmentsState) (i : ℕ) (p : Place) : Type 0 where
  pub place : IsPlace s.skb p
  pub bytes : bytes_at s.skb p ≡ drop (i * s.cut.m) (drop s.cut.layout.payload_at (buffer_bytes s.skb))

-- the payload that begins at a place: m bytes, or what is left
abbrev pub own_at : SegmentsState → Place → List ℕ
own_at s p = take (min s.cut.m p.left) (bytes_at s.skb p)
