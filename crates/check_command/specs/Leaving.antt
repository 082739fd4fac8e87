-- What `check` leaves.
use Rattle.std.specs.Prelude.{ℕ, List, [], Option, None, Some}
use Rattle.pcap_io.specs.declared.heads.Link.TheVariants.{Ethernet}
use Rattle.pcap_io.specs.Capture.{reads}
use Rattle.offload_model.specs.Need.{round_need}
use Rattle.cap_make.specs.Capture.{made}
use Rattle.offload_words.specs.declared.check.CheckOptions.{CheckOptions}
use Rattle.rounds.specs.RoundsState.{RoundsState}
use Rattle.command_rounds.specs.Leaving.{HasMerged}

-- of a generated capture, which no source gives, all was read
abbrev pub HasChecked : Option ℕ → CheckOptions → Option RoundsState → Option (List ℕ) → Option (List ℕ) → Type 0
HasChecked None o left old new = HasMerged o.merge.blocks
    (λ given. round_need (reads Ethernet given).packets) left old new
HasChecked (Some seed) o left old new =
    HasMerged o.merge.blocks (λ given. round_need (reads Ethernet given).packets) left (Some (made seed o.count))
    (Some [])
