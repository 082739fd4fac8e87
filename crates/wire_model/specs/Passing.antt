-- What the program makes of some bytes of a capture, record by record.
use Rattle.std.specs.Prelude.{◌≡◌, ℕ, ◌<◌, ◌≤◌, Option, None, List, [], ◌∷◌, ◌++◌, length}
use Rattle.std.specs.List.{flat_map}
use Rattle.net_bytes.specs.declared.order.Order.{Order}
use Rattle.pcap_io.specs.declared.heads.Link.TheVariants.{Ethernet}
use Rattle.pcap_io.specs.declared.faults.CapFault.{CapFault}
use Rattle.pcap_io.specs.declared.place.Place.{Place}
use Rattle.pcap_io.specs.Capture.{Packet, ended, one_more}
use Rattle.pcap_io.specs.Places.{found_at}
use Rattle.pcap_io.specs.Lengths.{lengths_at}
use Rattle.offload_model.specs.Need.{need_of, exceeded_at, found_within}
use Rattle.offload_model.specs.Written.{record_bytes}
use Rattle.offload_model.specs.Passing.{Passed, AtRound, stop_of, whole}
use Rattle.offload_model.specs.Steps.{behind}
use Rattle.wire_model.specs.Wire.{wire_of}
use Rattle.wire_model.specs.declared.wiring.Wiring.{Wiring}

-- what is written of a packet
abbrev pub wire_bytes : Wiring → Order → Packet → List ℕ
wire_bytes o order p = flat_map (record_bytes order) (wire_of o p)

-- from a place between two records on: each record is a round of its own
abbrev pub wiring : ℕ → Wiring → Place → List ℕ → Passed
wiring blocks o place bytes =
    let found = found_within blocks 1 place bytes in
    record {
      output = flat_map (wire_bytes o place.file.order) found.packets;
      stop = stop_of found.fault (exceeded_at blocks 1 place bytes);
    }

-- a whole capture
abbrev pub wiring_whole : ℕ → Wiring → List ℕ → Passed
wiring_whole blocks o = whole Ethernet Ethernet (wiring blocks o)

-- The next record: it goes before what follows it, or it exceeds the blocks, which is judged first; and where there is
-- none.
pub record WiresByRecord (blocks : ℕ) (o : Wiring) (place : Place) (bytes : List ℕ) : Type 0 where
  pub whole : (r : Packet) (mid : Place) (left : List ℕ) → need_of (length r.frame) ≤ blocks → mid.file ≡ place.file
      → found_at place bytes ≡ one_more r (found_at mid left)
      → lengths_at place bytes ≡ length r.frame ∷ lengths_at mid left
      → wiring blocks o place bytes ≡ behind 1 (wire_bytes o place.file.order r) (wiring blocks o mid left)
  pub exceeds : (len : ℕ) (more : List ℕ) → blocks < need_of len → lengths_at place bytes ≡ len ∷ more
      → wiring blocks o place bytes ≡ record { output = []; stop = AtRound 0 (need_of len) }
  pub cut : (len : ℕ) (fault : Option CapFault) → need_of len ≤ blocks → found_at place bytes ≡ ended fault
      → lengths_at place bytes ≡ len ∷ []
      → wiring blocks o place bytes ≡ record { output = []; stop = stop_of fault None }
  pub none : (fault : Option CapFault) → found_at place bytes ≡ ended fault → lengths_at place bytes ≡ []
      → wiring blocks o place bytes ≡ record { output = []; stop = stop_of fault None }

abbrev pub WiringGoesByRecord : Type 0
WiringGoesByRecord = (blocks : ℕ) (o : Wiring) (place : Place) (bytes : List ℕ) → WiresByRecord blocks o place bytes

-- what is written of the first bytes is a prefix of what is written of all
abbrev pub IsFrontOf : List ℕ → List ℕ → Type 0
IsFrontOf front all = (rest : List ℕ) × (all ≡ front ++ rest)

abbrev pub WiresGrow : Type 0
WiresGrow = (blocks : ℕ) (o : Wiring) (place : Place) (bytes more : List ℕ)
    → IsFrontOf (wiring blocks o place bytes).output (wiring blocks o place (bytes ++ more)).output
