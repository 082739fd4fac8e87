-- Where in a capture a reader stands, and how a call moves it.
use Rattle.std.specs.Prelude.{◌≡◌, ℕ, ◌+◌, ◌-◌, ◌*◌, ◌^◌, Bool, ◌≤◌, List, drop, false, Some}
use Rattle.net_bytes.specs.Order.{number}
use Rattle.pcap_io.specs.declared.heads.RecHead.{RecHead}
use Rattle.pcap_io.specs.declared.heads.Link.{Link}
use Rattle.pcap_io.specs.declared.heads.FileHead.{FileHead}
use Rattle.pcap_io.specs.declared.place.Place.{Place}
use Rattle.pcap_io.specs.declared.faults.CapFault.{CapFault}
use Rattle.pcap_io.specs.declared.faults.CapKind.{CapKind}
use Rattle.pcap_io.specs.declared.faults.CapKind.TheVariants.{ShortRecord}
use Rattle.pcap_io.specs.Limits.{most_record}
use Rattle.pcap_io.specs.Headers.{first_that_holds, captured_length, original_length}
use Rattle.pcap_io.specs.Capture.{Found, records_from}

-- before the first record, which gets this number
abbrev pub first_place : FileHead → Link → ℕ → Place
first_place file link first = record {
  file = file;
  link = link;
  number = first;
  offset = 24;
  current = 24;
  body = 0;
  is_done = false;
}

-- these bytes, read from a place between two records on
abbrev pub found_at : Place → List ℕ → Found
found_at place bytes = records_from place.file.order place.link place.number place.offset 0 bytes

-- the counts of a place are those of at most 2^32 records
pub record Counted (place : Place) : Type 0 where
  pub few : place.number ≤ 2 ^ 32
  pub within : place.offset ≤ 24 + (16 + most_record) * place.number

-- no body is open, and neither the end nor a refusal was answered
pub record IsReady (place : Place) : Type 0 where
  pub between : place.body ≡ 0
  pub goes_on : place.is_done ≡ false
  pub counted : Counted place

-- the fault that stands in a list of refusals, at this place
abbrev pub IsRefusal : Place → List (Bool × CapKind) → CapFault → Type 0
IsRefusal place rows fault = (first_that_holds rows ≡ Some fault.kind) × (fault.offset ≡ place.offset)
    × (fault.number ≡ place.number)

-- the fields of a header
pub record IsHead (place : Place) (bytes : List ℕ) (head : RecHead) : Type 0 where
  pub sec : head.sec ≡ number place.file.order 4 bytes
  pub frac : head.frac ≡ number place.file.order 4 (drop 4 bytes)
  pub captured : head.captured ≡ captured_length place.file.order bytes
  pub original : head.original ≡ original_length place.file.order bytes

-- a record's header was given, which has the next number and place, and its body is open
pub record EntersBody (old new : Place) (head : RecHead) : Type 0 where
  pub file : new.file ≡ old.file
  pub link : new.link ≡ old.link
  pub number : new.number ≡ old.number + 1
  pub offset : new.offset ≡ old.offset + 16 + head.captured
  pub current : new.current ≡ old.offset
  pub body : new.body ≡ head.captured
  pub goes_on : new.is_done ≡ false
  pub numbered : head.number ≡ old.number
  pub lies : head.offset ≡ old.offset

-- n bytes of a body were given
pub record ReadsOn (old new : Place) (n : ℕ) : Type 0 where
  pub file : new.file ≡ old.file
  pub link : new.link ≡ old.link
  pub number : new.number ≡ old.number
  pub offset : new.offset ≡ old.offset
  pub current : new.current ≡ old.current
  pub body : new.body + n ≡ old.body
  pub goes_on : new.is_done ≡ old.is_done

-- the fault of a body that is cut short
abbrev pub short_record : Place → CapFault
short_record place = record { kind = ShortRecord; offset = place.current; number = place.number - 1 }
