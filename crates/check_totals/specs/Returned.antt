-- Which packets come back: those that items stand for, compared one by one with the packets of their flows in their
-- places.
use Rattle.std.specs.Prelude.{ℕ, ◌+◌, ◌==◌, ◌&&◌, Bool, if◌then◌else◌, Option, List, [], ◌∷◌, length, drop}
use Rattle.std.specs.List.{filter}
use Rattle.std.specs.Str.{bytes_eq}
use Rattle.frame_layout.specs.Key.{key_eq, key_of}
use Rattle.pcap_io.specs.Capture.{Packet}
use Rattle.offload_model.specs.Merged.{Merged}
use Rattle.offload_model.specs.Rounds.{is_of}
use Rattle.offload_model.specs.Segments.{segments_by}
use Rattle.offload_model.specs.Written.{head_of}

-- the same bytes and the same original length
abbrev pub is_same : Packet → Packet → Bool
is_same x y = (x.original == y.original) && bytes_eq x.frame y.frame

-- in how many places two lists have the same
abbrev pub equal_in : List Packet → List Packet → ℕ
equal_in [] ys = 0
equal_in (x ∷ xs) [] = 0
equal_in (x ∷ xs) (y ∷ ys) = (if is_same x y then 1 else 0) + equal_in xs ys

-- the packets that an item stands for: its own where it is one packet, and else its segments
abbrev pub packets_in : Merged → List Packet
packets_in r = segments_by (head_of 0 r) r.packet

-- the flow of an item
abbrev pub flow_in : Merged → Option (List ℕ)
flow_in r = key_of r.packet.frame

-- of each flow, the packets that weren't compared yet: at first all of them
abbrev pub Lefts : Type 0
Lefts = Option (List ℕ) → List Packet

abbrev pub flows_of : List Packet → Lefts
flows_of ps q = filter (is_of q) ps

-- once an item was compared, its flow has as many fewer
abbrev pub behind_item : Lefts → Merged → Lefts
behind_item left r q = if key_eq q (flow_in r) then drop (length (packets_in r)) (left q) else left q

abbrev pub behind_items : Lefts → List Merged → Lefts
behind_items left [] = left
behind_items left (r ∷ rs) = behind_items (behind_item left r) rs

-- How many of the packets that items stand for equal, byte for byte and in original length, the packet of their flow in
-- that place.
abbrev pub returned_in : Lefts → List Merged → ℕ
returned_in left [] = 0
returned_in left (r ∷ rs) = equal_in (packets_in r) (left (flow_in r)) + returned_in (behind_item left r) rs
