-- Laws of generated captures.
use Rattle.std.specs.Prelude.{◌≡◌, ℕ, ◌^◌, ◌<◌, None, length}
use Rattle.pcap_io.specs.declared.heads.Link.TheVariants.{Ethernet}
use Rattle.pcap_io.specs.Capture.{reads}
use Rattle.cap_make.specs.Capture.{made, made_packets}

-- a generated capture reads to its end, as its packets, which are as many as were wanted
abbrev pub MadeReadsBack : Type 0
MadeReadsBack =
    (seed count : ℕ) → count < 2 ^ 32
    → (reads Ethernet (made seed count) ≡ record { packets = made_packets seed count; fault = None })
    × (length (made_packets seed count) ≡ count)
