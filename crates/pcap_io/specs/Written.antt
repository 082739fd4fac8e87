-- The bytes of headers that are written (pcap file format, sections 4 and 5).
use Rattle.std.specs.Prelude.{ℕ, List, ◌∷◌, ◌++◌, Bool, if◌then◌else◌}
use Rattle.net_bytes.specs.declared.order.Order.{Order}
use Rattle.net_bytes.specs.declared.order.Order.TheVariants.{Big}
use Rattle.net_bytes.specs.Order.{bytes_of}
use Rattle.pcap_io.specs.declared.heads.Link.{Link}
use Rattle.pcap_io.specs.declared.heads.FileHead.{FileHead}
use Rattle.pcap_io.specs.declared.off_head.OffHead.{OffHead}
use Rattle.pcap_io.specs.declared.off_head.OffHead2.{OffHead2}
use Rattle.pcap_io.specs.Headers.{link_number, captured_limit}

-- the number that names the unit of time: nanoseconds, or microseconds
abbrev pub magic_of : Bool → ℕ
magic_of nanos = if nanos then 2712812621 else 2712847316

-- a file header of version 2.4 as it is written
abbrev pub file_bytes : FileHead → Link → List ℕ
file_bytes head link =
    let order = head.order in
    bytes_of order 4 (magic_of head.nanos) ++ bytes_of order 2 2 ++ bytes_of order 2 4 ++ bytes_of order 4 head.zone
    ++ bytes_of order 4 head.sigfigs
    ++ bytes_of order 4 (captured_limit link) ++ bytes_of order 4 (link_number link)

-- a record header as it is written
abbrev pub rec_bytes : Order → ℕ → ℕ → ℕ → ℕ → List ℕ
rec_bytes order sec frac captured original = bytes_of order 4 sec ++ bytes_of order 4 frac ++ bytes_of order 4 captured
    ++ bytes_of order 4 original

-- an offload header of version 1
abbrev pub off_bytes : OffHead → List ℕ
off_bytes head =
    head.version ∷ head.kind ∷ (bytes_of Big 2 head.n ++ bytes_of Big 2 head.m ++ head.modes ∷ head.lane
    ∷ bytes_of Big 4 head.number)

-- and of version 2
abbrev pub off_bytes2 : OffHead2 → List ℕ
off_bytes2 head =
    head.version ∷ head.kind ∷ head.modes ∷ head.lane ∷ (bytes_of Big 4 head.n ++ bytes_of Big 4 head.m
    ++ bytes_of Big 4 head.number)
