-- Why a frame can't be merged.
use Rattle.std.specs.Prelude.{ℕ, ◌+◌, ◌-◌, ◌%◌, Bool, not, ◌==◌, ◌||◌, nat_lt}
use Rattle.std.specs.Prelude.{if◌then◌else◌, Option, None, Some, List, length}
use Rattle.net_bytes.specs.Bytes.{byte, be16}
use Rattle.eth_vlan.specs.Tag.{is_tag}
use Rattle.frame_layout.specs.Candidate.{is_length_right, are_flags_plain, all_sums_right}
use Rattle.frame_layout.specs.Headers.{all_headers}
use Rattle.frame_layout.specs.Shape.{Layout, shape_of}
use Rattle.frame_layout.specs.declared.layout.Header.{Header}
use Rattle.frame_layout.specs.declared.layout.Layer.TheVariants.{Ethernet}
use Rattle.frame_causes.specs.declared.cause.Cause.{Cause}
use Rattle.frame_causes.specs.declared.cause.Cause.TheVariants.{Mergeable, Cut, Fragment, Options, Extension}
use Rattle.frame_causes.specs.declared.cause.Cause.TheVariants.{Layout as OtherLayout}
use Rattle.frame_causes.specs.declared.cause.Cause.TheVariants.{Length, Flags, Empty, Sum}

-- ---- of a frame without a shape: what the first IP header says, behind at most two tags (IEEE 802.1Q, clause 9)

abbrev pub network_at : List ℕ → ℕ
network_at f = if is_tag (be16 f 12) then (if is_tag (be16 f 16) then 22 else 18) else 14

-- more fragments follow, or it isn't the first one; or the header has options (RFC 791, section 3.1)
abbrev pub ip4_cause : List ℕ → ℕ → Cause
ip4_cause f at = if not (be16 f (at + 6) % 0x4000 == 0) then Fragment
    else (if not (byte f at % 16 == 5) then Options else OtherLayout)

-- the extension headers that are no fragment's (RFC 8200, section 4; RFC 4302; RFC 6275; RFC 7401; RFC 5533)
abbrev pub is_extension : ℕ → Bool
is_extension n = n == 0 || (n == 43 || (n == 51 || (n == 60 || (n == 135 || (n == 139 || n == 140)))))

abbrev pub ip6_cause : List ℕ → ℕ → Cause
ip6_cause f at = if byte f (at + 6) == 44 then Fragment
    else (if is_extension (byte f (at + 6)) then Extension else OtherLayout)

abbrev pub network_cause : List ℕ → ℕ → ℕ → Cause
network_cause f kind at = if kind == 0x0800 then ip4_cause f at
    else (if kind == 0x86dd then ip6_cause f at else OtherLayout)

abbrev pub shape_cause : List ℕ → Cause
shape_cause f = network_cause f (be16 f (network_at f - 2)) (network_at f)

-- ---- of one with a shape, the condition of a candidate that fails; that there is a payload is asked before the sums,
-- which cover it

abbrev pub no_header : Header
no_header = record { layer = Ethernet; at = 0 }

abbrev pub layout_cause : List ℕ → Layout → Cause
layout_cause f layout =
    if not (all_headers (is_length_right (length f) f) layout.headers) then Length
    else (if not (all_headers (are_flags_plain f) layout.headers) then Flags
    else (if not (nat_lt layout.payload_at (length f)) then Empty
    else (if not (all_sums_right f no_header layout.headers) then Sum else Mergeable)))

abbrev pub cause_by : List ℕ → Option Layout → Cause
cause_by f None = shape_cause f
cause_by f (Some layout) = layout_cause f layout

-- why a frame that had `original` bytes before it was captured can't be merged; `Mergeable` of one that can
abbrev pub cause_of : List ℕ → ℕ → Cause
cause_of f original = if not (length f == original) then Cut else cause_by f (shape_of f)
