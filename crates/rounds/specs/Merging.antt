-- How merging ends, what is written of a round, and what a round or a row of them says of the bytes that are gone.
use Rattle.std.specs.Prelude.{◌≡◌, ◌⊎◌, ℕ, ◌+◌, ◌-◌, ◌≤◌, ◌^◌, ◌*◌, ⊤, Bool, true, false, min, length, Option}
use Rattle.std.specs.Prelude.{List, ◌++◌}
use Rattle.std.specs.List.{AllByRecursion}
use Rattle.std.specs.Io.KnownBytes.{Appends, Keeps}
use Rattle.off_io.specs.Content.{AppendsPrefix}
use Rattle.pcap_io.specs.declared.place.Place.{Place}
use Rattle.pcap_io.specs.Capture.{Packet}
use Rattle.pcap_io.specs.Places.{found_at}
use Rattle.offload_model.specs.Captured.{IsCaptured}
use Rattle.offload_model.specs.Need.{packets_within, round_need}
use Rattle.offload_model.specs.Passing.{Ending, Stopped, Nowhere, AtFault, AtRound, ReadFault, WriteFault, NoMemory}
use Rattle.offload_model.specs.Passing.{merging, Passes}
use Rattle.offload_model.specs.Steps.{GoesOn, ending_behind}
use Rattle.offload_model.specs.Written.{Options}
use Rattle.lanes.specs.Work.{options_by}
use Rattle.reading.specs.Reading.{in_front}
use Rattle.rounds.specs.RoundsState.{RoundsState}
use Rattle.rounds.specs.declared.round_stages.RoundEnd.{RoundEnd}
use Rattle.rounds.specs.declared.round_stages.RoundEnd.TheVariants as read_ends
use Rattle.rounds.specs.declared.round_writer.MergeEnd.{MergeEnd}
use Rattle.rounds.specs.declared.round_writer.MergeEnd.TheVariants as ends
use Rattle.rounds.specs.declared.round_writer.Step.{Step}
use Rattle.rounds.specs.declared.round_writer.Step.TheVariants as steps

abbrev pub ending_of : MergeEnd → Ending
ending_of ends.Done = Stopped Nowhere
ending_of (ends.Malformed fault) = Stopped (AtFault fault)
ending_of (ends.PoolEmpty round need) = Stopped (AtRound round need)
ending_of ends.ReadFault = ReadFault
ending_of ends.WriteFault = WriteFault
ending_of ends.NoMemory = NoMemory

abbrev pub options_of : RoundsState → Options
options_of rounds = options_by rounds.plan rounds.budget

-- ---- a round that is written

-- a round wasn't written whole: the sink failed, or there was no memory
abbrev pub Fails : Option (List ℕ) → Option (List ℕ) → List ℕ → MergeEnd → Type 0
Fails old new bytes end = ((end ≡ ends.WriteFault) × AppendsPrefix old new bytes)
    ⊎ ((end ≡ ends.NoMemory) × Keeps old new)

-- the last round: it was written, and merging ends as it is to, or it wasn't
abbrev pub WritesLast : Option (List ℕ) → Option (List ℕ) → List ℕ → MergeEnd → MergeEnd → Type 0
WritesLast old new bytes end result = ((result ≡ end) × Appends old new bytes) ⊎ Fails old new bytes result

-- a round that ended so is worked: there was memory for it and there were blocks, which it doesn't exceed
abbrev pub is_worked : RoundEnd → Bool
is_worked (read_ends.PoolEmpty need) = false
is_worked read_ends.NoMemory = false
is_worked read_ends.GivenUp = false
is_worked _ = true

-- a round that was worked is put: merging goes on behind a full one, and else ends as the reading did, unless it fails
abbrev pub Puts : Option (List ℕ) → Option (List ℕ) → List ℕ → RoundEnd → Step → Type 0
Puts old new bytes read_ends.Full steps.Goes = Appends old new bytes
Puts old new bytes read_ends.Full (steps.Ends result) = Fails old new bytes result
Puts old new bytes read_ends.End (steps.Ends result) = WritesLast old new bytes ends.Done result
Puts old new bytes (read_ends.Malformed fault) (steps.Ends result) = WritesLast old new bytes
    (ends.Malformed fault) result
Puts old new bytes read_ends.ReadFault (steps.Ends result) = WritesLast old new bytes ends.ReadFault result
Puts old new bytes _ _ = ⊥

-- of a round that is given up, behind k others, nothing is written
abbrev pub GivesUp : Option (List ℕ) → Option (List ℕ) → ℕ → RoundEnd → MergeEnd → Type 0
GivesUp old new k (read_ends.PoolEmpty need) result = ((result ≡ ends.PoolEmpty k need) ⊎ (result ≡ ends.WriteFault))
    × Keeps old new
GivesUp old new k read_ends.NoMemory result = (result ≡ ends.NoMemory) × (new ≡ old)
GivesUp old new k read_ends.GivenUp result = (result ≡ ends.NoMemory) × (new ≡ old)
GivesUp old new k _ result = ⊥

-- ---- rounds

-- The bytes that are gone are k rounds, whatever follows them: this was written of them, and as many blocks were taken
-- as they need. Their packets are such as a capture may hold, since they were read into fields of 32 bits and into
-- bytes.
pub record Ahead (blocks : ℕ) (options : Options) (k : ℕ) (from to : Place) (old new : Option (List ℕ)) (before now : ℕ)
    (bytes left : List ℕ) : Type 0 where
  pub gone : List ℕ
  pub done : List ℕ
  pub packets : List Packet
  pub split : bytes ≡ gone ++ left
  pub goes : GoesOn (merging blocks options from) (merging blocks options to) k gone done
  pub found : (tail : List ℕ) → found_at from (gone ++ tail) ≡ in_front packets (found_at to tail)
  pub wrote : Appends old new done
  pub took : min (before + round_need packets) (2 ^ 64 - 1) ≤ now
  pub size : length packets ≡ k * options.budget
  pub each : AllByRecursion IsCaptured packets

-- from here on merging ends so, behind k rounds
abbrev pub EndsBehind : ℕ → ℕ → Options → Place → Option (List ℕ) → Option (List ℕ) → MergeEnd → List ℕ → List ℕ
    → Type 0
EndsBehind k blocks options from old new end bytes left =
    (ending : Ending) × (ending_of end ≡ ending_behind k ending)
    × Passes (merging blocks options from) old new ending bytes left

-- of the end that a step comes to
abbrev pub IfEnds : Step → (MergeEnd → Type 0) → Type 0
IfEnds steps.Goes P = Unit {0}
IfEnds (steps.Ends end) P = P end

-- as many blocks were taken as all packets need
abbrev pub TakesAll : ℕ → ℕ → Place → List ℕ → List ℕ → Type 0
TakesAll before now place bytes left = min (before + round_need (found_at place bytes).packets) (2 ^ 64 - 1) ≤ now

-- By an ending, as many blocks were taken as the packets need that were read: of a source that failed those of the
-- bytes that are gone, of a round that exceeds the blocks those of the rounds before.
abbrev pub TakesTo : ℕ → ℕ → Place → ℕ → ℕ → Ending → List ℕ → List ℕ → Type 0
TakesTo blocks budget place before now (Stopped (AtRound round need)) bytes left =
    min (before + round_need (packets_within blocks budget place bytes)) (2 ^ 64 - 1) ≤ now
TakesTo blocks budget place before now (Stopped Nowhere) bytes left = TakesAll before now place bytes left
TakesTo blocks budget place before now (Stopped (AtFault fault)) bytes left = TakesAll before now place bytes left
TakesTo blocks budget place before now ReadFault bytes left = (gone : List ℕ) × (bytes ≡ gone ++ left)
    × TakesAll before now place gone left
TakesTo blocks budget place before now WriteFault bytes left = ⊤
TakesTo blocks budget place before now NoMemory bytes left = ⊤

-- the same of the round that ends it, behind k others
abbrev pub TakesBehind : ℕ → Place → ℕ → ℕ → Ending → List ℕ → List ℕ → Type 0
TakesBehind k place before now (Stopped (AtRound round need)) bytes left =
    (round ≡ k) × (min before (2 ^ 64 - 1) ≤ now)
TakesBehind k place before now (Stopped Nowhere) bytes left = TakesAll before now place bytes left
TakesBehind k place before now (Stopped (AtFault fault)) bytes left = TakesAll before now place bytes left
TakesBehind k place before now ReadFault bytes left = (gone : List ℕ) × (bytes ≡ gone ++ left)
    × TakesAll before now place gone left
TakesBehind k place before now WriteFault bytes left = ⊤
TakesBehind k place before now NoMemory bytes left = ⊤

-- the packets that these bytes hold from a place on are such as a capture may hold
abbrev pub AreCapturedAt : Place → List ℕ → Type 0
AreCapturedAt place bytes = AllByRecursion IsCaptured (found_at place bytes).packets

-- What the round that ends merging says, behind k others, of the packets that were read: of those before a round that
-- exceeds the blocks only how many rounds they are.
abbrev pub EndsCaptured : ℕ → Place → MergeEnd → List ℕ → List ℕ → Type 0
EndsCaptured k place ends.Done bytes left = AreCapturedAt place bytes
EndsCaptured k place (ends.Malformed fault) bytes left = AreCapturedAt place bytes
EndsCaptured k place (ends.PoolEmpty round need) bytes left = round ≡ k
EndsCaptured k place ends.ReadFault bytes left = (gone : List ℕ) × (bytes ≡ gone ++ left) × AreCapturedAt place gone
EndsCaptured k place ends.WriteFault bytes left = ⊤
EndsCaptured k place ends.NoMemory bytes left = ⊤

-- the packets that are merged are such as a capture may hold; of a source that failed those of the bytes that are gone
abbrev pub HoldsCaptured : ℕ → ℕ → Place → MergeEnd → List ℕ → List ℕ → Type 0
HoldsCaptured blocks budget place ends.Done bytes left = AllByRecursion IsCaptured
    (packets_within blocks budget place bytes)
HoldsCaptured blocks budget place (ends.Malformed fault) bytes left = AllByRecursion IsCaptured
    (packets_within blocks budget place bytes)
HoldsCaptured blocks budget place (ends.PoolEmpty round need) bytes left = AllByRecursion IsCaptured
    (packets_within blocks budget place bytes)
HoldsCaptured blocks budget place ends.ReadFault bytes left =
    (gone : List ℕ) × (bytes ≡ gone ++ left) × AllByRecursion IsCaptured (packets_within blocks budget place gone)
HoldsCaptured blocks budget place ends.WriteFault bytes left = ⊤
HoldsCaptured blocks budget place ends.NoMemory bytes left = ⊤
