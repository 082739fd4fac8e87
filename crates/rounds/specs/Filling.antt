-- Where reading a round stands, and what it comes to, of wherever it began.
use Rattle.std.specs.Prelude.{ℕ, ◌≡◌, ◌≤◌, List, length, map, Option}
use Rattle.off_io.specs.Faults.{Rose}
use Rattle.off_io.specs.Told.{Told}
use Rattle.pcap_io.specs.declared.heads.RecHead.{RecHead}
use Rattle.pcap_io.specs.declared.place.Place.{Place}
use Rattle.pcap_io.specs.declared.reader.CaptureReader.{CaptureReader}
use Rattle.pcap_io.specs.Readers.{place_of, source_of}
use Rattle.gro.specs.declared.slot.Slot.{Slot as Held}
use Rattle.gro.specs.Slots.{packet_of}
use Rattle.reading.specs.Reading.{Passes, StandsAt}
use Rattle.rounds.specs.Fresh.{NumberedFrom}
use Rattle.rounds.specs.Reading.{GivesRound, IfEnded, PassesRound}
use Rattle.rounds.specs.declared.round_stages.Halt.{Halt}
use Rattle.rounds.specs.declared.round_stages.Halt.TheVariants as halts
use Rattle.rounds.specs.declared.round_stages.RoundEnd.TheVariants as ends

-- how far a reader went: the place, what the source has left where it tells, and its faults
pub record Reached : Type 0 where
  pub place : Place
  pub left : Option (List ℕ)
  pub faults : ℕ

-- of a reader whose source tells what it has left and its faults
abbrev pub reached : {S : Type 0} → (S → Option (List ℕ)) → (S → ℕ) → CaptureReader S → Reached
reached left faults reader = record {
  place = place_of reader;
  left = left (source_of reader);
  faults = faults (source_of reader);
}

-- A round's packets were read from `start` on, and are counted from `from`. Behind them a record begins `at` a place,
-- where the source had `before` left: there the reader stands now, or behind that record's header, which is kept.
pub record Stands (start : Reached) (from : Place) (now : Reached) (head : Option RecHead) (packets : List Held)
    : Type 0 where
  pub at : Place
  pub before : Option (List ℕ)
  pub stands : StandsAt head at now.place before now.left
  pub told : Told start.left before (Passes start.place at (map packet_of packets))
  pub goes : PassesRound from at packets (length packets)
  pub numbers : NumberedFrom from.number packets
  pub later : start.faults ≤ now.faults

-- The round was read on: it has an end, which is what the bytes from `start` on say, or stands so once more.
pub record Fills (blocks budget : ℕ) (start : Reached) (from : Place) (now : Reached) (head : Option RecHead)
    (round : List Held) (halt : Halt) : Type 0 where
  pub given : IfEnded halt (λ end. Told start.left now.left (GivesRound blocks start.place now.place round end))
  pub full : halt ≡ halts.Ended ends.Full → PassesRound from now.place round budget
  pub waits : halt ≡ halts.Lacking → Stands start from now head round
  pub numbers : NumberedFrom from.number round
  pub later : start.faults ≤ now.faults
  pub failed : halt ≡ halts.Ended ends.ReadFault → Rose start.faults now.faults
