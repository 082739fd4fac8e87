-- Laws of the definitions, each carried by a function of the crate.
use Rattle.std.specs.Prelude.{◌≡◌, ℕ, ◌^◌, ◌<◌, ◌≤◌, List, [], ◌∷◌, ◌++◌, length, map, take, drop, None}
use Rattle.net_bytes.specs.declared.order.Order.{Order}
use Rattle.net_bytes.specs.Order.{number}
use Rattle.pcap_io.specs.declared.heads.Link.{Link}
use Rattle.pcap_io.specs.declared.heads.FileHead.{FileHead}
use Rattle.pcap_io.specs.declared.heads.RecHead.{RecHead}
use Rattle.pcap_io.specs.declared.place.Place.{Place}
use Rattle.pcap_io.specs.declared.faults.CapFault.{CapFault}
use Rattle.pcap_io.specs.declared.off_head.OffHead.{OffHead}
use Rattle.pcap_io.specs.declared.off_head.OffHead2.{OffHead2}
use Rattle.pcap_io.specs.Headers.{first_that_holds, file_refusals, file_head, captured_length, original_length}
use Rattle.pcap_io.specs.Headers.{off_head, off_head2}
use Rattle.pcap_io.specs.Capture.{Packet, Found, reads_numbered}
use Rattle.pcap_io.specs.Places.{found_at, EntersBody}
use Rattle.pcap_io.specs.Lengths.{lengths_at}
use Rattle.pcap_io.specs.Reading.{TakesHead, RefusesHead}
use Rattle.pcap_io.specs.Written.{file_bytes, rec_bytes, off_bytes, off_bytes2}
use Rattle.pcap_io.specs.Split.{AreBytes, AreLawful, spelled_all, IsSplit}

-- the fields fit their bytes
pub record FitsOffHead (head : OffHead) : Type 0 where
  pub n : head.n < 2 ^ 16
  pub m : head.m < 2 ^ 16
  pub number : head.number < 2 ^ 32

-- an offload header that is written is read back
abbrev pub OffHeadReadsBack : Type 0
OffHeadReadsBack = (head : OffHead) → FitsOffHead head → off_head (off_bytes head) ≡ head

-- and one that is read is written back
abbrev pub OffHeadWritesBack : Type 0
OffHeadWritesBack = (bytes : List ℕ) → length bytes ≡ 12 → AreBytes bytes → off_bytes (off_head bytes) ≡ bytes

pub record FitsOffHead2 (head : OffHead2) : Type 0 where
  pub n : head.n < 2 ^ 32
  pub m : head.m < 2 ^ 32
  pub number : head.number < 2 ^ 32

-- the same of version 2
abbrev pub OffHead2ReadsBack : Type 0
OffHead2ReadsBack = (head : OffHead2) → FitsOffHead2 head → off_head2 (off_bytes2 head) ≡ head

abbrev pub OffHead2WritesBack : Type 0
OffHead2WritesBack = (bytes : List ℕ) → length bytes ≡ 16 → AreBytes bytes → off_bytes2 (off_head2 bytes) ≡ bytes

-- what a record header's bytes say
pub record SaysRecord (order : Order) (head : List ℕ) (s f c o : ℕ) : Type 0 where
  pub sec : number order 4 head ≡ s
  pub frac : number order 4 (drop 4 head) ≡ f
  pub captured : captured_length order head ≡ c
  pub original : original_length order head ≡ o

-- a record header that is written is read back
abbrev pub RecHeadReadsBack : Type 0
RecHeadReadsBack =
    (order : Order) (sec frac captured original : ℕ) → sec < 2 ^ 32 → frac < 2 ^ 32 → captured < 2 ^ 32
    → original < 2 ^ 32
    → SaysRecord order (rec_bytes order sec frac captured original) sec frac captured original

-- and one that is read is written back
abbrev pub RecHeadWritesBack : Type 0
RecHeadWritesBack =
    (order : Order) (head : List ℕ) → length head ≡ 16 → AreBytes head
    → rec_bytes order (number order 4 head) (number order 4 (drop 4 head)) (captured_length order head)
    (original_length order head) ≡ head

-- a file header that is written is lawful and is read back
abbrev pub FileHeadReadsBack : Type 0
FileHeadReadsBack =
    (head : FileHead) (link : Link) → head.zone < 2 ^ 32 → head.sigfigs < 2 ^ 32
    → (first_that_holds (file_refusals link (file_bytes head link)) ≡ None) × (file_head (file_bytes head link) ≡ head)

-- The bytes of a capture are its file header, the records that `reads` gives, spelled out, and a rest that starts no
-- whole lawful record and ends as `reads` says.
abbrev pub CaptureSplits : Type 0
CaptureSplits =
    (first : ℕ) (link : Link) (bytes : List ℕ) → AreBytes bytes
    → first_that_holds (file_refusals link (take 24 bytes)) ≡ None
    → (rest : List ℕ) × IsSplit first link bytes (reads_numbered first link bytes) rest

-- no other packets, rest and end split the bytes so
abbrev pub SplitIsUnique : Type 0
SplitIsUnique =
    (first : ℕ) (link : Link) (bytes : List ℕ) (f g : Found) (xs ys : List ℕ)
    → IsSplit first link bytes f xs → IsSplit first link bytes g ys → (f ≡ g) × (xs ≡ ys)

-- a capture that is written of lawful packets reads as these, and ends well
abbrev pub CaptureReadsBack : Type 0
CaptureReadsBack =
    (first : ℕ) (head : FileHead) (link : Link) (ps : List Packet) → head.zone < 2 ^ 32 → head.sigfigs < 2 ^ 32
    → AreLawful link first ps
    → reads_numbered first link (file_bytes head link ++ spelled_all head.order ps)
    ≡ record { packets = ps; fault = None }

-- The captured lengths go record by record, as a reader takes them: where nothing is left, where the next header is
-- refused, and where it is taken, by whether its body is there.
pub record GoesByRecord (place : Place) : Type 0 where
  pub none : lengths_at place [] ≡ []
  pub refused : (bytes left : List ℕ) (fault : CapFault) → RefusesHead place bytes left fault
      → lengths_at place bytes ≡ []
  pub whole : (mid : Place) (bytes rest frame left : List ℕ) (head : RecHead) → TakesHead place bytes rest head
      → EntersBody place mid head
      → rest ≡ frame ++ left → length frame ≡ head.captured
      → lengths_at place bytes ≡ head.captured ∷ lengths_at mid left
  pub cut : (bytes rest : List ℕ) (head : RecHead) → TakesHead place bytes rest head → length rest < head.captured
      → lengths_at place bytes ≡ head.captured ∷ []

abbrev pub LengthsByRecord : Type 0
LengthsByRecord = (place : Place) → GoesByRecord place

abbrev pub frame_length : Packet → ℕ
frame_length p = length p.frame

-- They are the lengths of the packets that the bytes hold, and of at most one record more, which is cut short.
abbrev pub LengthsOfPackets : Type 0
LengthsOfPackets =
    (place : Place) (bytes : List ℕ)
    → (more : List ℕ) × (lengths_at place bytes ≡ map frame_length (found_at place bytes).packets ++ more)
    × (length more ≤ 1)
