-- The captured lengths that a capture's lawful record headers say: those of the whole records, and that of one more
-- whose body is cut short (pcap file format, section 5). Of a refused header there is none.
use Rattle.std.specs.Prelude.{ℕ, zero, suc, ◌+◌, List, [], ◌∷◌, take, Option, None, Some}
use Rattle.net_bytes.specs.declared.order.Order.{Order}
use Rattle.pcap_io.specs.declared.heads.Link.{Link}
use Rattle.pcap_io.specs.declared.place.Place.{Place}
use Rattle.pcap_io.specs.declared.faults.CapKind.{CapKind}
use Rattle.pcap_io.specs.declared.faults.CapKind.TheVariants.{ShortRecord}
use Rattle.pcap_io.specs.Headers.{first_that_holds, captured_length, record_refusals}

-- the length of the record at the front, and those behind it, by what refuses that record
abbrev pub lengths_by : Option CapKind → ℕ → List ℕ → List ℕ
lengths_by None size rest = size ∷ rest
lengths_by (Some ShortRecord) size rest = size ∷ []
lengths_by (Some _) size rest = []

-- from record n on, which begins after `skip` bytes that belong to the one before
unfoldable pub lengths_from : Order → Link → ℕ → ℕ → List ℕ → List ℕ
lengths_from order link n skip [] = []
lengths_from order link n (suc skip) (b ∷ bytes) = lengths_from order link n skip bytes
lengths_from order link n zero (b ∷ bytes) =
    let size = captured_length order (take 16 (b ∷ bytes)) in
    lengths_by (first_that_holds (record_refusals order link n (b ∷ bytes))) size
    (lengths_from order link (n + 1) (15 + size) bytes)

-- of these bytes, read from a place between two records on
abbrev pub lengths_at : Place → List ℕ → List ℕ
lengths_at place bytes = lengths_from place.file.order place.link place.number 0 bytes
