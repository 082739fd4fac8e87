-- What is asked of the next packet of a run, header by header.
use Rattle.std.specs.Prelude.{◌≡◌, ℕ, ◌+◌, ◌-◌, ◌%◌, ◌^◌, ◌<◌, ◌≤◌, ◌==◌, ◌↔◌, Bool, true, ◌&&◌, ◌||◌, if◌then◌else◌}
use Rattle.std.specs.Prelude.{Option, Some, None, List, [], ◌∷◌, ◌++◌, length, map}
use Rattle.std.specs.List.{AllByRecursion, flat_map}
use Rattle.pcap_io.specs.Limits.{most_frame}
use Rattle.net_bytes.specs.Bytes.{byte}
use Rattle.ip_headers.specs.Ip4.{identification, dont_fragment}
use Rattle.frame_layout.specs.Shape.{Layout}
use Rattle.frame_layout.specs.Headers.{all_headers, varying, AreHeadersAlike, size}
use Rattle.frame_layout.specs.declared.layout.Header.{Header}
use Rattle.frame_layout.specs.declared.layout.Layer.{Layer}
use Rattle.frame_layout.specs.declared.layout.Layer.TheVariants.{Ip4}
use Rattle.offload_model.specs.Merged.{modes_behind}
use Rattle.offload_model.specs.Tests.{are_udp_sums_alike, is_sequence_behind, is_length_in_range}

-- a header of the next frame: it has a UDP sum where the first frame has one, its sequence number is `further` bytes
-- behind that of the first frame, and its length field has room in a merged frame of `total` bytes
abbrev pub is_next_at : List ℕ → List ℕ → ℕ → ℕ → Layer → ℕ → Bool
is_next_at first next further total layer at =
    are_udp_sums_alike next first layer at && (is_sequence_behind first next further layer at
    && is_length_in_range total layer at)

-- the identification of packet n, from 0: packet 1 settles whether it stays or rises, and the lowest bit of `modes`
-- keeps that
abbrev pub is_next_id : ℕ → ℕ → List ℕ → List ℕ → ℕ → Bool
is_next_id n modes first next at =
    if n == 1
    then identification next at == (identification first at + n) % 2 ^ 16
    || (dont_fragment first at && identification next at == identification first at)
    else (if modes % 2 == 1 then identification next at == identification first at
    else identification next at == (identification first at + n) % 2 ^ 16)

abbrev pub is_next_id_at : ℕ → ℕ → List ℕ → List ℕ → Layer → ℕ → Bool
is_next_id_at n modes first next Ip4 at = is_next_id n modes first next at
is_next_id_at n modes first next _ at = true

abbrev pub are_ids_next : ℕ → ℕ → List ℕ → List ℕ → List Header → Bool
are_ids_next n modes first next [] = true
are_ids_next n modes first next (h ∷ hs) = is_next_id_at n modes first next h.layer h.at
    && are_ids_next n (modes_behind h.layer modes) first next hs

-- the bytes from one place to another are the same
abbrev pub AreSame : List ℕ → List ℕ → ℕ → ℕ → Type 0
AreSame f g from to = (k : ℕ) → from ≤ k → k < to → byte f k ≡ byte g k

-- the fields of a header that begins at `at`, by their places in the frame
abbrev pub fields_at : ℕ → List (ℕ × ℕ) → List (ℕ × ℕ)
fields_at at fields = map (λ (f : ℕ × ℕ). (at + f.0, f.1)) fields

-- all fields of the headers that may differ
abbrev pub varying_in : List Header → List (ℕ × ℕ)
varying_in hs = flat_map (λ h. fields_at h.at (varying h.layer)) hs

-- two frames are alike from a place on, between these fields
abbrev pub AreAlikeFrom : List ℕ → List ℕ → ℕ → ℕ → List (ℕ × ℕ) → Type 0
AreAlikeFrom f g end from [] = AreSame f g from end
AreAlikeFrom f g end from (x ∷ xs) = AreSame f g from x.0 × AreAlikeFrom f g end (x.0 + x.1) xs

-- the fields stand one behind the other, from a place on
abbrev pub AreApart : ℕ → List (ℕ × ℕ) → ℕ → Type 0
AreApart start [] end = start ≤ end
AreApart start (x ∷ xs) end = (start ≤ x.0) × AreApart (x.0 + x.1) xs end

-- where two frames are alike between these fields, `to` is the end of the last one
abbrev pub AlikeTo : List ℕ → List ℕ → ℕ → ℕ → List (ℕ × ℕ) → Option ℕ → Type 0
AlikeTo f g end from fields None = (rest : List (ℕ × ℕ)) → AreAlikeFrom f g end from (fields ++ rest) → ⊥
AlikeTo f g end from fields (Some to) =
    (rest : List (ℕ × ℕ))
    → (AreAlikeFrom f g end to rest ↔ AreAlikeFrom f g end from (fields ++ rest))
    × (AreApart from (fields ++ rest) end → AreApart to rest end)

-- a frame of n bytes begins with these
pub record HasHead (head : List ℕ) (n : ℕ) (f : List ℕ) : Type 0 where
  pub begins : (k : ℕ) → k < length head → byte f k ≡ byte head k
  pub long : length f ≡ n

-- a frame of m bytes that begins with `next` continues an open run of `count` packets, whose first has n bytes and
-- begins with `first`: its merged frame has `total` bytes so far, and `modes` say which identifications stay
pub record IsNextBy (layout : Layout) (first : List ℕ) (n count total modes : ℕ) (next : List ℕ) (m : ℕ) : Type 0 where
  pub shorter : m ≤ n
  pub there : layout.payload_at ≤ m
  pub alike : AreHeadersAlike layout first next
  pub numbers : all_headers (is_next_at first next (total - layout.payload_at) (total + (m - layout.payload_at)))
      layout.headers ≡ true
  pub room : total + (m - layout.payload_at) ≤ most_frame
  pub ids : are_ids_next count modes first next layout.headers ≡ true

-- the frame `next` does
abbrev pub IsNext : Layout → List ℕ → ℕ → ℕ → ℕ → List ℕ → Type 0
IsNext layout first count total modes next = IsNextBy layout first (length first) count total modes next (length next)

-- each header lies within the first n bytes
abbrev pub AreInside : ℕ → List Header → Type 0
AreInside n hs = AllByRecursion (λ h. h.at + size h.layer ≤ n) hs
