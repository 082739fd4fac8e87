-- Rounds that are read one after another.
use Rattle.std.specs.Prelude.{ℕ, ◌≡◌, ◌≢◌, ◌+◌, ◌-◌, ◌<◌, ◌≤◌, ◌^◌, Bool, true, false, Option, List, [], ◌∷◌}
use Rattle.std.specs.Prelude.{length, map, min}
use Rattle.std.specs.List.{AllByRecursion}
use Rattle.off_io.specs.Faults.{Rose}
use Rattle.off_io.specs.Told.{Told}
use Rattle.pcap_io.specs.declared.place.Place.{Place}
use Rattle.pcap_io.specs.declared.reader.CaptureReader.{CaptureReader}
use Rattle.pcap_io.specs.Readers.{place_of, source_of}
use Rattle.offload_model.specs.Captured.{IsCaptured}
use Rattle.offload_model.specs.Need.{round_need}
use Rattle.gro.specs.Slots.{packet_of}
use Rattle.rounds.specs.Fresh.{NumberedFrom}
use Rattle.rounds.specs.declared.round_stages.RoundEnd.{RoundEnd}
use Rattle.rounds.specs.declared.round_stages.RoundEnd.TheVariants as ends
use Rattle.rounds.specs.declared.round_stages.RoundRead.{RoundRead}
use Rattle.rounds.specs.Reading.{GivesRound, PassesRound}

-- the round was full: another one may follow
abbrev pub is_full : RoundEnd → Bool
is_full ends.Full = true
is_full _ = false

-- where reading stands: the place, what the source has left where it tells, its faults, and the blocks that were taken
pub record Spot : Type 0 where
  pub place : Place
  pub left : Option (List ℕ)
  pub faults : ℕ
  pub taken : ℕ

abbrev pub spot : Place → Option (List ℕ) → ℕ → ℕ → Spot
spot place left faults taken = record { place = place; left = left; faults = faults; taken = taken }

-- where a reader stands, of which the source tells what it has left and its faults
abbrev pub reader_at : {S : Type 0} → (S → Option (List ℕ)) → (S → ℕ) → CaptureReader S → ℕ → Spot
reader_at left faults reader taken = spot (place_of reader) (left (source_of reader)) (faults (source_of reader)) taken

-- A round was read: it has the next packets of the capture, in their order, and has ended so by the bytes alone.
pub record ReadRound (blocks budget : ℕ) (from to : Spot) (read : RoundRead) : Type 0 where
  pub given : Told from.left to.left (GivesRound blocks from.place to.place read.round.packets read.end)
  pub size : length read.round.packets ≤ budget
  pub fewer : (read.end ≢ ends.Full) → (read.end ≢ ends.NoMemory) → length read.round.packets < budget
  pub full : read.end ≡ ends.Full → PassesRound from.place to.place read.round.packets budget
  pub captured : AllByRecursion IsCaptured (map packet_of read.round.packets)
  pub numbers : NumberedFrom from.place.number read.round.packets
  pub need : read.round.blocks ≡ round_need (map packet_of read.round.packets)
  pub within : read.round.blocks ≤ blocks
  pub some : 1 ≤ budget
  pub took : min (from.taken + read.round.blocks) (2 ^ 64 - 1) ≤ to.taken
  pub later : from.faults ≤ to.faults
  pub failed : read.end ≡ ends.ReadFault → Rose from.faults to.faults

-- rounds one after another: none follows one that was not full
abbrev pub Reads : ℕ → ℕ → Spot → List RoundRead → Spot → Type 0
Reads blocks budget from [] to = to ≡ from
Reads blocks budget from (read ∷ rs) to = (mid : Spot) × ReadRound blocks budget from mid read
    × (is_full read.end ≡ false → rs ≡ []) × Reads blocks budget mid rs to
