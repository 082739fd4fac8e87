-- What checking makes of a capture's bytes: the totals of the packets, and the lines that tell them.
use Rattle.std.specs.Prelude.{ℕ, List, [], take, drop}
use Rattle.pcap_io.specs.declared.heads.Link.TheVariants.{Ethernet}
use Rattle.pcap_io.specs.declared.place.Place.{Place}
use Rattle.pcap_io.specs.Headers.{first_that_holds, file_refusals, file_head}
use Rattle.pcap_io.specs.Places.{first_place}
use Rattle.offload_model.specs.Need.{exceeded_at, found_within}
use Rattle.offload_model.specs.Passing.{Stop, Passed, stop_of, behind_head}
use Rattle.offload_model.specs.Written.{Options}
use Rattle.check_totals.specs.Counts.{Counts, totals_of}
use Rattle.check_totals.specs.Lines.{check_lines}

-- what is counted, and where the bytes stop it
pub record Tally : Type 0 where
  pub totals : Counts
  pub stop : Stop

-- the packets of the rounds that fit the blocks, from a place between two records on
abbrev pub counting : ℕ → Options → Place → List ℕ → Tally
counting blocks options place bytes =
    let found = found_within blocks options.budget place bytes in
    record {
      totals = totals_of options found.packets;
      stop = stop_of found.fault (exceeded_at blocks options.budget place bytes);
    }

-- the lines are written at the end
abbrev pub checking : ℕ → Options → Place → List ℕ → Passed
checking blocks options place bytes =
    let tally = counting blocks options place bytes in
    record { output = check_lines tally.totals; stop = tally.stop }

-- of a whole capture; where its file header is refused nothing is written
abbrev pub checking_whole : ℕ → Options → List ℕ → Passed
checking_whole blocks options given =
    let head = file_head (take 24 given) in
    behind_head (first_that_holds (file_refusals Ethernet (take 24 given))) []
    (checking blocks options (first_place head Ethernet 0) (drop 24 given))
