-- What each answer of a reader says of the bytes that its source had left before the call and has left after it.
use Rattle.std.specs.Prelude.{◌≡◌, ℕ, ◌<◌, ◌≤◌, List, [], ◌++◌, length, take, drop, Option, None, Some, Result, Ok, Err}
use Rattle.std.specs.Prelude.{IfErr}
use Rattle.off_io.specs.Faults.{Rose}
use Rattle.off_io.specs.Told.{Told}
use Rattle.pcap_io.specs.declared.heads.RecHead.{RecHead}
use Rattle.pcap_io.specs.declared.heads.Link.{Link}
use Rattle.pcap_io.specs.declared.heads.FileHead.{FileHead}
use Rattle.pcap_io.specs.declared.place.Place.{Place}
use Rattle.pcap_io.specs.declared.faults.CapFault.{CapFault}
use Rattle.pcap_io.specs.declared.faults.InFault.{InFault}
use Rattle.pcap_io.specs.declared.faults.InFault.TheVariants.{Cap, ReadFault}
use Rattle.pcap_io.specs.Headers.{first_that_holds, head_refusals, file_refusals, file_place, file_head}
use Rattle.pcap_io.specs.Capture.{ended}
use Rattle.pcap_io.specs.Places.{found_at, IsHead, IsRefusal, short_record}

-- some bytes are gone from the front
abbrev pub Loses : List ℕ → List ℕ → Type 0
Loses bytes left = (gone : List ℕ) × (bytes ≡ gone ++ left)

-- some bytes are gone, fewer than n
abbrev pub FewerGone : List ℕ → List ℕ → ℕ → Type 0
FewerGone old new n = (front : List ℕ) × (old ≡ front ++ new) × (length front < n)

-- the header of the next record was taken and is lawful
pub record TakesHead (place : Place) (bytes left : List ℕ) (head : RecHead) : Type 0 where
  pub whole : 16 ≤ length bytes
  pub lawful : first_that_holds (head_refusals place.file.order place.link place.number (take 16 bytes)) ≡ None
  pub fields : IsHead place (take 16 bytes) head
  pub rest : left ≡ drop 16 bytes

-- what follows the last record is no lawful record header, and this ends the capture
pub record RefusesHead (place : Place) (bytes left : List ℕ) (fault : CapFault) : Type 0 where
  pub some : 0 < length bytes
  pub refused : IsRefusal place (head_refusals place.file.order place.link place.number (take 16 bytes)) fault
  pub found : found_at place bytes ≡ ended (Some fault)
  pub rest : left ≡ drop 16 bytes

abbrev pub GivesHead : Place → Result (Option RecHead) InFault → List ℕ → List ℕ → Type 0
GivesHead place (Ok None) bytes left = (bytes ≡ []) × (left ≡ [])
GivesHead place (Ok (Some head)) bytes left = TakesHead place bytes left head
GivesHead place (Err (Cap fault)) bytes left = RefusesHead place bytes left fault
GivesHead place (Err ReadFault) bytes left = FewerGone bytes left 16

abbrev pub GivesBody : Place → Result (Unit {0}) InFault → List ℕ → List ℕ → List ℕ → Type 0
GivesBody place (Ok _) into bytes left = bytes ≡ into ++ left
GivesBody place (Err (Cap fault)) into bytes left = (length bytes < length into) × (fault ≡ short_record place)
    × (left ≡ [])
GivesBody place (Err ReadFault) into bytes left = FewerGone bytes left (length into)

-- the fault of a file header's kind
abbrev pub IsFileFault : Link → List ℕ → CapFault → Type 0
IsFileFault link head fault =
    (first_that_holds (file_refusals link head) ≡ Some fault.kind)
    × (fault ≡ record { kind = fault.kind; offset = file_place fault.kind; number = 0 })

abbrev pub GivesFile : Link → Result FileHead InFault → List ℕ → List ℕ → Type 0
GivesFile link (Ok file) bytes left =
    (24 ≤ length bytes) × (first_that_holds (file_refusals link (take 24 bytes)) ≡ None)
    × (file ≡ file_head (take 24 bytes)) × (left ≡ drop 24 bytes)
GivesFile link (Err (Cap fault)) bytes left = IsFileFault link (take 24 bytes) fault × (left ≡ drop 24 bytes)
GivesFile link (Err ReadFault) bytes left = FewerGone bytes left 24

-- what the first bytes say as a file header, or why they are refused
abbrev pub IsFile : Link → Result FileHead InFault → List ℕ → Type 0
IsFile link (Ok file) head = (first_that_holds (file_refusals link head) ≡ None) × (file ≡ file_head head)
IsFile link (Err (Cap fault)) head = IsFileFault link head fault
IsFile link (Err ReadFault) head = ⊥

-- a file header was refused: what the source, of content `left` and faults `faults`, then ends as
abbrev pub IsRefused : {S T : Type 0} → (S → Option (List ℕ)) → (S → ℕ) → Link → Result T InFault → S → S → Type 0
IsRefused left faults link result old new =
    IfErr result (λ fault.
    Told (left old) (left new) (GivesFile link (Err fault))
    × (faults old ≤ faults new)
    × (fault ≡ ReadFault → Rose (faults old) (faults new)))
