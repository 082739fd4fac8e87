-- The records of a capture have numbers that rise, whatever its bytes.
use Rattle.std.proofs.Common.{◌≡◌, ℕ, zero, suc, ◌+◌, ◌<◌, List, [], ◌∷◌, take, refl, arith, Option, Some, None}
use Rattle.maximal_runs.specs.Cut.{AllNeighbours}
use Rattle.pcap_io.specs.Capture.{Packet, Found, packet_at, judged, records_from}
use Rattle.pcap_io.specs.Headers.{first_that_holds, record_refusals, captured_length}
use Rattle.pcap_io.specs.declared.faults.CapKind.{CapKind}
use Rattle.pcap_io.specs.declared.heads.FileHead.{FileHead}
use Rattle.pcap_io.specs.declared.heads.Link.TheVariants.{Ethernet}

-- the packets have the numbers from n on
abbrev AreFrom : ℕ → List Packet → Type 0
AreFrom n [] = Unit {0}
AreFrom n (p ∷ ps) = (p.number ≡ n) × AreFrom (n + 1) ps

rising_from : (n : ℕ) (ps : List Packet) → AreFrom n ps → AllNeighbours (λ p q. p.number < q.number) ps
rising_from n [] a = tt
rising_from n (p ∷ []) a = tt
rising_from n (p ∷ q ∷ ps) a = (omega (arith, a.0, a.1.0), rising_from (n + 1) (q ∷ ps) a.1)

from_judged : (o : Option CapKind) (n offset : ℕ) (p : Packet) (rest : Found) → p.number ≡ n → AreFrom (n + 1) rest.packets → AreFrom n (judged o n offset p rest).packets
from_judged None n offset p rest e a = (e, a)
from_judged (Some kind) n offset p rest e a = tt

from_records : (file : FileHead) (n offset skip : ℕ) (bytes : List ℕ) → AreFrom n (records_from file.order Ethernet n offset skip bytes).packets
unfolding records_from
from_records file n offset skip [] = tt
from_records file n offset (suc skip) (b ∷ bytes) = from_records file n offset skip bytes
from_records file n offset zero (b ∷ bytes) =
    let size : ℕ = captured_length file.order (take 16 (b ∷ bytes)) in
    from_judged (first_that_holds (record_refusals file.order Ethernet n (b ∷ bytes))) n offset (packet_at file.order n (b ∷ bytes))
    (records_from file.order Ethernet (n + 1) (offset + 16 + size) (15 + size) bytes) refl
    (from_records file (n + 1) (offset + 16 + size) (15 + size) bytes)

pub records_rising : (file : FileHead) (offset : ℕ) (bytes : List ℕ) → AllNeighbours (λ p q. p.number < q.number) (records_from file.order Ethernet 0 offset 0 bytes).packets
records_rising file offset bytes = rising_from 0 (records_from file.order Ethernet 0 offset 0 bytes).packets (from_records file 0 offset 0 bytes)
