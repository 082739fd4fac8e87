-- What the answers of the exports say.
use Rattle.std.specs.Prelude.{◌≡◌, ◌⊎◌, ℕ, ◌^◌, ◌≤◌, ◌<◌, List, take, drop, length, ⊤}
use Rattle.pcap_io.specs.declared.faults.CapFault.{CapFault}
use Rattle.pcap_io.specs.declared.heads.Link.TheVariants.{Ethernet}
use Rattle.pcap_io.specs.Capture.{reads}
use Rattle.offload_model.specs.CaptureLaws.{BringsBack}
use Rattle.offload_model.specs.Passing.{Stop, Nowhere, AtFault, AtRound, Passed}
use Rattle.offload_model.specs.Tested.{segmented_of}
use Rattle.offload_c.specs.declared.memory.Outcome.{Outcome}
use Rattle.offload_c.specs.declared.memory.Outcome.TheVariants.{Whole, Refused, Empty, NoMemory}

-- ---- the caller's buffer

-- the output stands at the front of the buffer, and the rest of the buffer is as it was
pub record Fills (old new : List ℕ) (count : ℕ) (bytes : List ℕ) : Type 0 where
  pub fits : count ≤ length new
  pub front : take count new ≡ bytes
  pub rest : drop count new ≡ drop count old

-- the buffer is as it was, and the count is that of the whole output, which is longer
pub record IsShort (old new : List ℕ) (count : ℕ) (bytes : List ℕ) : Type 0 where
  pub same : new ≡ old
  pub whole : count ≡ length bytes
  pub short : length old < count

-- ---- where a command stops

abbrev pub IsAtFault : Stop → Type 0
IsAtFault stop = (fault : CapFault) × (stop ≡ AtFault fault)

-- at a round that needs more blocks than there are
abbrev pub IsAtRound : Stop → Type 0
IsAtRound stop = (round : ℕ) × (need : ℕ) × (stop ≡ AtRound round need)

-- the output of a command, and where it stopped
abbrev pub Gives : Passed → Outcome → Type 0
Gives passed (Whole bytes) = (passed.stop ≡ Nowhere) × (bytes.items ≡ passed.output)
Gives passed (Refused bytes) = IsAtFault passed.stop × (bytes.items ≡ passed.output)
Gives passed (Empty bytes) = IsAtRound passed.stop × (bytes.items ≡ passed.output)
Gives passed NoMemory = ⊤

-- Segmented again the output brings every flow back. With taps its records may be more than can be read again, and no
-- output of this length has so many.
abbrev pub FlowsBack : ℕ → List ℕ → List ℕ → Type 0
FlowsBack taps given output =
    (taps ≡ 0) ⊎ (length output ≤ 2 ^ 36) → BringsBack (reads Ethernet given).packets
    (reads Ethernet (segmented_of output))

abbrev pub FlowsOf : ℕ → List ℕ → Outcome → Type 0
FlowsOf taps given (Whole bytes) = FlowsBack taps given bytes.items
FlowsOf taps given _ = ⊤
