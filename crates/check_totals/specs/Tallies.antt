-- How counting goes on, round by round, and what an ending says of the totals.
use Rattle.std.specs.Prelude.{◌≡◌, ℕ, ◌+◌, ◌*◌, ◌<◌, ◌≤◌, None, Option, List, [], ◌∷◌, ◌++◌, length, map}
use Rattle.std.specs.Io.KnownBytes.{Appends}
use Rattle.pcap_io.specs.Limits.{most_frame}
use Rattle.off_io.specs.Content.{AppendsPrefix}
use Rattle.pcap_io.specs.declared.place.Place.{Place}
use Rattle.pcap_io.specs.declared.faults.CapFault.{CapFault}
use Rattle.pcap_io.specs.Capture.{Packet, ended}
use Rattle.pcap_io.specs.Places.{found_at}
use Rattle.pcap_io.specs.Lengths.{lengths_at}
use Rattle.pcap_io.specs.Laws.{frame_length}
use Rattle.offload_model.specs.Captured.{AreCaptured}
use Rattle.offload_model.specs.Need.{need_of, needed, round_need}
use Rattle.offload_model.specs.Passing.{Stop, AtRound, Ending, Stopped, ReadFault, WriteFault, NoMemory, stop_of}
use Rattle.offload_model.specs.Passing.{IsLeft, IsNoRound, Passes}
use Rattle.offload_model.specs.Steps.{stop_behind, ending_behind, in_front}
use Rattle.offload_model.specs.Written.{Options}
use Rattle.check_totals.specs.Counts.{Counts, queue_totals, round_totals, totals_of, added, no_lanes, IsWithin}
use Rattle.check_totals.specs.Counts.{HasLanes}
use Rattle.check_totals.specs.Lines.{check_lines}
use Rattle.check_totals.specs.Checking.{Tally, counting, checking}

-- behind k rounds, of which this was counted
abbrev pub tally_behind : ℕ → Counts → Tally → Tally
tally_behind k done rest = record { totals = added done rest.totals; stop = stop_behind k rest.stop }

-- the bytes that are gone are k rounds, whatever follows them, and this was counted of them
abbrev pub CountsOn : (List ℕ → Tally) → (List ℕ → Tally) → ℕ → List ℕ → Counts → Type 0
CountsOn from to k gone done = (tail : List ℕ) → from (gone ++ tail) ≡ tally_behind k done (to tail)

-- ---- an ending

-- what is counted of the bytes that are gone was added
abbrev pub AddsGone : (List ℕ → Tally) → Counts → Counts → List ℕ → Type 0
AddsGone tally old new gone = new ≡ added old (tally gone).totals

-- What was added to the totals: what is counted of the bytes that were given, which is what is counted of those that
-- are gone; and where the source failed of these, which hold no round that exceeds the blocks. For want of memory the
-- totals say nothing.
abbrev pub Tallies : (List ℕ → Tally) → Counts → Counts → Ending → List ℕ → List ℕ → Type 0
Tallies tally old new (Stopped stop) bytes left =
    ((tally bytes).stop ≡ stop) × IsLeft stop bytes left × (new ≡ added old (tally bytes).totals)
    × ((gone : List ℕ) × (bytes ≡ gone ++ left) × AddsGone tally old new gone)
Tallies tally old new ReadFault bytes left = (gone : List ℕ) × (bytes ≡ gone ++ left) × IsNoRound (tally gone).stop
    × AddsGone tally old new gone
Tallies tally old new WriteFault bytes left = (gone : List ℕ) × (bytes ≡ gone ++ left)
Tallies tally old new NoMemory bytes left = (gone : List ℕ) × (bytes ≡ gone ++ left)

-- Rounds follow one another, none is the first step, and what is counted behind them is added to what they count.
pub record TalliesOn (from to : List ℕ → Tally) (k : ℕ) (gone : List ℕ) (done : Counts) : Type 0 where
  pub none : CountsOn from from 0 [] no_lanes
  pub more : (last : List ℕ → Tally) (j : ℕ) (gone' : List ℕ) (done' : Counts) → CountsOn from to k gone done
      → CountsOn to last j gone' done'
      → CountsOn from last (k + j) (gone ++ gone') (added done done')
  pub tallies : (old mid new : Counts) (ending : Ending) (bytes left : List ℕ) → CountsOn from to k gone done
      → mid ≡ added old done
      → Tallies to mid new ending bytes left → Tallies from old new (ending_behind k ending) (gone ++ bytes) left

abbrev pub TotalsAddUp : Type 0
TotalsAddUp = (from to : List ℕ → Tally) (k : ℕ) (gone : List ℕ) (done : Counts) → TalliesOn from to k gone done

-- ---- rounds

-- Where these packets are the next ones: a full round that fits is counted before what stands behind it; a last round
-- is counted, and the capture's fault ends it, where one more record that is cut short fits too; and the next record
-- may exceed the blocks.
pub record CountsByRound (blocks : ℕ) (options : Options) (place : Place) (ps : List Packet)
    (bytes : List ℕ) : Type 0 where
  pub full : (mid : Place) (left : List ℕ) → length ps ≡ options.budget → round_need ps ≤ blocks
      → found_at place bytes ≡ in_front ps (found_at mid left)
      → lengths_at place bytes ≡ map frame_length ps ++ lengths_at mid left
      → counting blocks options place bytes ≡ tally_behind 1 (round_totals options ps)
      (counting blocks options mid left)
  pub last : (fault : Option CapFault) (more : List ℕ) → length ps + length more ≤ options.budget
      → round_need ps + needed more ≤ blocks
      → found_at place bytes ≡ in_front ps (ended fault) → lengths_at place bytes ≡ map frame_length ps ++ more
      → counting blocks options place bytes ≡ record { totals = round_totals options ps; stop = stop_of fault None }
  pub exceeds : (len : ℕ) (more : List ℕ) → length ps < options.budget → round_need ps ≤ blocks
      → blocks < round_need ps + need_of len
      → lengths_at place bytes ≡ map frame_length ps ++ len ∷ more
      → counting blocks options place bytes ≡ record {
        totals = totals_of options [];
        stop = AtRound 0
            (round_need ps + need_of len);
      }

abbrev pub CountingGoesByRound : Type 0
CountingGoesByRound =
    (blocks : ℕ) (options : Options) (place : Place) (ps : List Packet) (bytes : List ℕ) → 0 < options.budget
    → CountsByRound blocks options place ps bytes

-- ---- packets

-- a full round and what follows it; one round, maybe of no packet; and nothing, which adds nothing
pub record TotalsByRound (options : Options) (ps : List Packet) : Type 0 where
  pub full : (more : List Packet) → length ps ≡ options.budget
      → totals_of options (ps ++ more) ≡ added (round_totals options ps) (totals_of options more)
  pub rounds : (k : ℕ) (more : List Packet) → length ps ≡ k * options.budget
      → totals_of options (ps ++ more) ≡ added (totals_of options ps) (totals_of options more)
  pub last : length ps ≤ options.budget → totals_of options ps ≡ round_totals options ps
  pub none : added (totals_of options []) (totals_of options ps) ≡ totals_of options ps
  pub none_behind : added (totals_of options ps) (totals_of options []) ≡ totals_of options ps

abbrev pub TotalsGoByRound : Type 0
TotalsGoByRound = (options : Options) (ps : List Packet) → 0 < options.budget → TotalsByRound options ps

-- ---- how few

-- A round has no more items than packets, nor more windows of a tap; and no tap reads more bytes than the packets have.
abbrev pub TotalsAreFew : Type 0
TotalsAreFew = (options : Options) (ps : List Packet) → AreCaptured ps
    → IsWithin (length ps) (most_frame * length ps) (round_totals options ps)

-- Each record of a queue comes back: the segments of its items are the packets of their runs.
abbrev pub RecordsReturn : Type 0
RecordsReturn = (options : Options) (q : ℕ) (ps : List Packet) → AreCaptured ps
    → (queue_totals options q ps).returned ≡ (queue_totals options q ps).records

-- numbers that are added add their bounds
abbrev pub BoundsAdd : Type 0
BoundsAdd = (a b : Counts) (m n j k : ℕ) → IsWithin m n a → IsWithin j k b → IsWithin (m + j) (n + k) (added a b)

-- ---- lanes

-- there are as many as the options say, and of as many the totals of no packet add nothing
pub record LanesAre (options : Options) : Type 0 where
  pub of_round : (ps : List Packet) → HasLanes options (round_totals options ps)
  pub of_all : (ps : List Packet) → HasLanes options (totals_of options ps)
  pub of_sum : (a b : Counts) → HasLanes options a → HasLanes options b → HasLanes options (added a b)
  pub of_nothing : (a : Counts) → HasLanes options a → added a (totals_of options []) ≡ a

abbrev pub LanesStay : Type 0
LanesStay = (options : Options) → LanesAre options

-- ---- lines

-- Where all was counted from nothing, what is written of the totals is what checking writes: all of it, or a front
-- where the sink failed.
pub record LinesTell (blocks : ℕ) (options : Options) (place : Place) (totals : Counts) (old new : Option (List ℕ))
    (bytes left : List ℕ) : Type 0 where
  pub stopped : (stop : Stop) → Tallies (counting blocks options place) (totals_of options []) totals
      (Stopped stop) bytes left
      → Appends old new (check_lines totals) → Passes (checking blocks options place) old new (Stopped stop) bytes left
  pub read_fault : Tallies (counting blocks options place) (totals_of options []) totals ReadFault bytes left
      → Appends old new (check_lines totals) → Passes (checking blocks options place) old new ReadFault bytes left
  pub failed : (stop : Stop) → Tallies (counting blocks options place) (totals_of options []) totals
      (Stopped stop) bytes left
      → AppendsPrefix old new (check_lines totals)
      → Passes (checking blocks options place) old new WriteFault bytes left
  pub both_failed : Tallies (counting blocks options place) (totals_of options []) totals ReadFault bytes left
      → AppendsPrefix old new (check_lines totals)
      → Passes (checking blocks options place) old new WriteFault bytes left
  pub no_memory : Tallies (counting blocks options place) (totals_of options []) totals NoMemory bytes left
      → Appends old new [] → Passes (checking blocks options place) old new NoMemory bytes left

abbrev pub TotalsAreTold : Type 0
TotalsAreTold =
    (blocks : ℕ) (options : Options) (place : Place) (totals : Counts) (old new : Option (List ℕ)) (bytes left : List ℕ)
    → LinesTell blocks options place totals old new bytes left
