-- What reading a record into blocks says of the bytes that were left before it and are left after it.
use Rattle.std.specs.Prelude.{ℕ, ◌≡◌, ◌+◌, ◌-◌, ◌<◌, ◌≤◌, List, [], ◌∷◌, ◌++◌, length, map, false, None, Some, Result}
use Rattle.std.specs.Prelude.{Ok, Err, Option}
use Rattle.off_io.specs.Told.{Told}
use Rattle.skb.specs.SkbState.{buffer_bytes}
use Rattle.pcap_io.specs.declared.place.Place.{Place}
use Rattle.pcap_io.specs.declared.heads.Link.{Link}
use Rattle.pcap_io.specs.declared.heads.Link.TheVariants as links
use Rattle.pcap_io.specs.declared.heads.RecHead.{RecHead}
use Rattle.pcap_io.specs.declared.faults.InFault.{InFault}
use Rattle.pcap_io.specs.declared.faults.InFault.TheVariants as faults
use Rattle.pcap_io.specs.Capture.{Packet, Found, packet, ended}
use Rattle.pcap_io.specs.Laws.{frame_length}
use Rattle.pcap_io.specs.Headers.{captured_limit, is_bad_original, lacks_off_head}
use Rattle.pcap_io.specs.Limits.{off_head_size}
use Rattle.pcap_io.specs.Lengths.{lengths_at}
use Rattle.pcap_io.specs.Places.{found_at, Counted, EntersBody, IsReady, short_record}
use Rattle.pcap_io.specs.Reading.{FewerGone, GivesHead, Loses}
use Rattle.gro.specs.declared.slot.Slot.{Slot as Held}
use Rattle.gro.specs.Packets.{PacketsState}
use Rattle.offload_model.specs.Need.{need_of, needed}
use Rattle.reading.specs.declared.record.Stop.{Stop}
use Rattle.reading.specs.declared.record.Stop.TheVariants.{End, Lacking, Malformed, PoolEmpty, ReadFault, NoMemory}

-- how many bytes of a record are read in front of its blocks: of link type 147 those that every offload header has
abbrev pub front_size : Link → ℕ
front_size links.Ethernet = 0
front_size links.Offload = off_head_size

-- the record of a packet that was read behind these bytes
abbrev pub record_of : List ℕ → Held → Packet
record_of front p = packet p.number p.sec p.frac p.original (front ++ buffer_bytes p.skb)

abbrev pub HasHead : RecHead → List ℕ → Held → Type 0
HasHead head front p = (p.number ≡ head.number) × (p.sec ≡ head.sec) × (p.frac ≡ head.frac)
    × (p.original ≡ head.original) × (length (front ++ buffer_bytes p.skb) ≡ head.captured)

-- the body of the record whose header was taken
abbrev pub GivesPacket : Place → RecHead → List ℕ → Result Held Stop → List ℕ → List ℕ → Type 0
GivesPacket place head front (Ok p) bytes left = (bytes ≡ (front ++ buffer_bytes p.skb) ++ left) × HasHead head front p
GivesPacket place head front (Err End) bytes left = ⊥
GivesPacket place head front (Err (Malformed fault)) bytes left = (length bytes < head.captured)
    × (fault ≡ short_record place) × (left ≡ [])
GivesPacket place head front (Err (PoolEmpty need)) bytes left = ⊥
GivesPacket place head front (Err Lacking) bytes left = ⊥
GivesPacket place head front (Err ReadFault) bytes left = FewerGone bytes left head.captured
GivesPacket place head front (Err NoMemory) bytes left = Loses bytes left

-- some packets in front
abbrev pub in_front : List Packet → Found → Found
in_front packets rest = record { packets = packets ++ rest.packets; fault = rest.fault }

-- what two places say of the same bytes, which these packets stand between
pub record Between (old new : Place) (packets : List Packet) (gone tail : List ℕ) : Type 0 where
  pub found : found_at old (gone ++ tail) ≡ in_front packets (found_at new tail)
  pub lengths : lengths_at old (gone ++ tail) ≡ map frame_length packets ++ lengths_at new tail

-- the bytes that are gone stand, whatever follows them, for these packets in front of those that follow
abbrev pub Passes : Place → Place → List Packet → List ℕ → List ℕ → Type 0
Passes old new packets bytes left = (gone : List ℕ) × (bytes ≡ gone ++ left)
    × ((tail : List ℕ) → Between old new packets gone tail)

-- the lengths of the frames whose record headers are lawful: by these the need is judged
abbrev pub judged_at : Place → List ℕ → List ℕ
judged_at place bytes = map (λ len. len - front_size place.link) (lengths_at place bytes)

-- the bytes that are gone hold no whole record, and what they begin fits the blocks, of which `used` are the round's
-- already
abbrev pub HoldsNone : ℕ → ℕ → Place → List ℕ → List ℕ → Type 0
HoldsNone used blocks old bytes left = (gone : List ℕ) × (bytes ≡ gone ++ left) × ((found_at old gone).packets ≡ [])
    × (used + needed (judged_at old gone) ≤ blocks)

-- the bytes that are gone hold these lengths, and maybe others behind them
abbrev pub Announces : Place → List ℕ → List ℕ → List ℕ → Type 0
Announces place lens bytes left = (gone : List ℕ) × (bytes ≡ gone ++ left)
    × ((more : List ℕ) × (lengths_at place gone ≡ lens ++ more))

-- The header of a record is lawful, and with it the round needs more than there are blocks. The bytes that are gone say
-- so.
abbrev pub NeedsMore : ℕ → ℕ → ℕ → Place → List ℕ → List ℕ → Type 0
NeedsMore used blocks need place bytes left =
    (len : ℕ) × ((more : List ℕ) × ((lengths_at place bytes ≡ len ∷ more)
    × (need ≡ used + need_of (len - front_size place.link)) × (blocks < need) × Loses bytes left
    × Announces place (len ∷ []) bytes left))

-- One record, where `used` blocks are the round's already. Where its blocks don't come its header is gone: `stands` of
-- `read_record` says which.
abbrev pub GivesRecord : ℕ → ℕ → Place → Place → List ℕ → Result Held Stop → List ℕ → List ℕ → Type 0
GivesRecord used blocks old new front (Ok p) bytes left = Passes old new (record_of front p ∷ []) bytes left
GivesRecord used blocks old new front (Err End) bytes left = (found_at old bytes ≡ ended None)
    × (lengths_at old bytes ≡ []) × (left ≡ []) × (bytes ≡ [])
GivesRecord used blocks old new front (Err (Malformed fault)) bytes left =
    (found_at old bytes ≡ ended (Some fault)) × (used + needed (judged_at old bytes) ≤ blocks)
    × HoldsNone used blocks old bytes left
GivesRecord used blocks old new front (Err (PoolEmpty need)) bytes left = NeedsMore used blocks need old bytes left
GivesRecord used blocks old new front (Err Lacking) bytes left = Loses bytes left
GivesRecord used blocks old new front (Err ReadFault) bytes left = HoldsNone used blocks old bytes left
GivesRecord used blocks old new front (Err NoMemory) bytes left = Loses bytes left

-- a list has one packet more than before
abbrev pub HasOne : PacketsState → PacketsState → Type 0
HasOne old new = (p : Held) × (new.items ≡ old.items ++ p ∷ [])

-- what is known of that packet
abbrev pub OfNew : PacketsState → PacketsState → (Held → Type 0) → Type 0
OfNew old new P = (p : Held) → new.items ≡ old.items ++ p ∷ [] → P p

-- what is known of an answer, which is that packet, or why there is none
abbrev pub OfAnswer : {X : Type 0} → Result X Stop → PacketsState → PacketsState → (Result Held Stop → Type 0) → Type 0
OfAnswer (Ok x) old new P = OfNew old new (λ p. P (Ok p))
OfAnswer (Err stop) old new P = P (Err stop)

-- one record was taken, and the next one may be
pub record GoesOn (old new : Place) : Type 0 where
  pub file : new.file ≡ old.file
  pub link : new.link ≡ old.link
  pub number : new.number ≡ old.number + 1
  pub ready : IsReady new

-- a record's header was given at a place, and the reader stands behind it
pub record KeepsHead (at new : Place) (head : RecHead) : Type 0 where
  pub ready : IsReady at
  pub enters : EntersBody at new head
  pub captured : head.captured ≤ captured_limit at.link
  pub original : is_bad_original at.link head.original ≡ false
  pub off_head : lacks_off_head at.link head.captured ≡ false
  pub counted : Counted new

-- A record begins at the place `at`: there the reader stands, or behind the record's header, which is kept.
abbrev pub IsAt : Option RecHead → Place → Place → Type 0
IsAt None at place = (place ≡ at) × IsReady at
IsAt (Some head) at place = KeepsHead at place head

-- the bytes that were left where the record begins, and those that are left here
abbrev pub Opens : Option RecHead → Place → List ℕ → List ℕ → Type 0
Opens None at opened left = opened ≡ left
Opens (Some head) at opened left = GivesHead at (Ok (Some head)) opened left

-- both: what the source had left where the record begins is `before`, and `left` what it has left here
pub record StandsAt (kept : Option RecHead) (at place : Place) (before left : Option (List ℕ)) : Type 0 where
  pub is : IsAt kept at place
  pub told : Told before left (Opens kept at)

-- the rest of a record whose header was kept: whatever bytes that was taken of, with it they come to this
abbrev pub GivesKept : ℕ → ℕ → Place → Place → RecHead → List ℕ → Result Held Stop → List ℕ → List ℕ → Type 0
GivesKept used blocks at new head front answer bytes left =
    (opened : List ℕ) → GivesHead at (Ok (Some head)) opened bytes
    → GivesRecord used blocks at new front answer opened left

-- a stop for a fault of the reader
abbrev pub IsStopOf : InFault → Stop → Type 0
IsStopOf (faults.Cap fault) stop = stop ≡ Malformed fault
IsStopOf faults.ReadFault stop = stop ≡ ReadFault
