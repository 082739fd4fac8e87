-- What a caller sees of a reader.
use Rattle.std.specs.Prelude.{◌≡◌}
use Rattle.pcap_io.specs.declared.reader.CaptureReader.{CaptureReader}
use Rattle.pcap_io.specs.declared.place.Place.{Place}

-- where it stands
abbrev pub place_of : {S : Type 0} → CaptureReader S → Place
place_of reader = reader.place

-- the source that it reads from
abbrev pub source_of : {S : Type 0} → CaptureReader S → S
source_of reader = reader.source.now

-- both hold one and the same loan of the source
abbrev pub SameLoan : {S : Type 0} → CaptureReader S → CaptureReader S → Type 0
SameLoan old new = new.source.ghost_name ≡ old.source.ghost_name
