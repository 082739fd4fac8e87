-- Merging over a list of packets, by index.
use Rattle.std.specs.Prelude.{ℕ, ◌≡◌, ◌+◌, ◌<◌, ◌≤◌, Option, None, Bool, false}
use Rattle.std.specs.Prelude.{List, [], ◌∷◌, ◌++◌, length, map, take}
use Rattle.std.specs.Prelude.{set, slice_index_or, vec_len, vec_capacity}
use Rattle.std.specs.List.{AllByRecursion}
use Rattle.maximal_runs.specs.Cut.{AllNeighbours}
use Rattle.maximal_runs.specs.Items.{first_number, AreItems}
use Rattle.offload_model.specs.declared.limits.Limits.{Limits}
use Rattle.pcap_io.specs.Capture.{Packet}
use Rattle.offload_model.specs.Mergeable.{IsMergeable, IsMergeableWithin}
use Rattle.offload_model.specs.Rounds.{is_of, number_of}
use Rattle.inet_sum.specs.Stands.{FoldAndLength}
use Rattle.frame_layout.specs.Shape.{Layout}
use Rattle.merge_rule.specs.Runs.{IsRunBy, IsJudged}
use Rattle.merge_rule.specs.Steps.{TakesPacket, KeepsEarly}
use Rattle.frame_runs.specs.declared.run.Run.{Run}
use Rattle.frame_runs.specs.declared.engine.Engine.{Engine}
use Rattle.frame_runs.specs.Flows.{place_of, AreFlows, HasRoom}
use Rattle.frame_runs.specs.Index.{IsShut, IsIndexOf, IsLatest}
use Rattle.frame_runs.specs.Chains.{behind, indices, last_in, packet_at, run_of, AreSharedOut}

-- a run that has come to this, of p and the packets behind it
pub record Knows (run : Run) (p : Packet) (rest : List Packet) : Type 0 where
  pub is : IsRunBy run.layout run.payload run.flags run.progress p (p ∷ rest)
  pub more : length rest ≡ run.more

-- it has come to some packets that begin with p
abbrev pub KnowsSome : Run → Packet → Type 0
KnowsSome run p = (rest : List Packet) × Knows run p rest

-- and takes x
abbrev pub TakesOne : Run → Packet → Packet → Type 0
TakesOne run p x = (rest : List Packet) × (Knows run p rest × IsMergeable ((p ∷ rest) ++ (x ∷ [])))

-- what a packet adds to a run is the sum of its payload, and its control bits
abbrev pub IsAdded : List ℕ → ℕ → FoldAndLength → ℕ → Type 0
IsAdded f original sum bits = (found : Option Layout) × IsJudged f original found sum bits

-- a run of a list of packets: its indices are those of packets, the last one is its last, and it has come to these
pub record IsChain (ps : List Packet) (next : List ℕ) (run : Run) : Type 0 where
  pub knows : Knows run (packet_at ps run.first) (map (packet_at ps) (behind next run))
  pub last : last_in run.first (behind next run) ≡ run.last
  pub inside : AllByRecursion (λ k. k < length ps) (indices next run)

-- the runs, as packets of this list
abbrev pub runs_of : List Packet → Engine → List (List Packet)
runs_of ps e = map (run_of ps e.next.items) e.runs.items

abbrev pub chains_of : Engine → List (List ℕ)
chains_of e = map (indices e.next.items) e.runs.items

-- what is known of an engine that has received the first i packets of a list: each index stands in one chain, once
pub record AreRuns (ps : List Packet) (i : ℕ) (e : Engine) : Type 0 where
  pub each : AllByRecursion (IsChain ps e.next.items) e.runs.items
  pub shared : AreSharedOut i (chains_of e)
  pub linked : length ps ≤ length e.next.items
  pub flows : AreFlows ps e.flows
  pub index : IsIndexOf (place_of ps e.flows) (runs_of ps e)
  pub latest : IsLatest (place_of ps e.flows) (runs_of ps e) e.last

-- the run at a place has taken packet i; `is_open` says whether another may follow
pub record Grows (ps : List Packet) (i place : ℕ) (is_open : Bool) (a b : Engine) : Type 0 where
  pub each : AllByRecursion (IsChain ps b.next.items) b.runs.items
  pub shared : AreSharedOut (i + 1) (chains_of b)
  pub linked : length b.next.items ≡ length a.next.items
  pub runs : runs_of ps b
      ≡ set (runs_of ps a) place (slice_index_or (runs_of ps a) place [] ++ (packet_at ps i ∷ []))
  pub shut : is_open ≡ false → IsShut (slice_index_or (runs_of ps a) place [] ++ (packet_at ps i ∷ []))
  pub flows : b.flows ≡ a.flows
  pub room : (vec_len b.runs ≡ vec_len a.runs) × (vec_capacity b.runs ≡ vec_capacity a.runs)

-- so many more runs may be opened
abbrev pub HasPlaces : Engine → ℕ → Type 0
HasPlaces e n = (vec_len e.runs + n ≤ vec_capacity e.runs) × HasRoom e.flows n

-- an engine that has no runs, for lists of at most n packets
pub record IsReady (e : Engine) (n : ℕ) : Type 0 where
  pub none : e.runs.items ≡ []
  pub linked : n ≤ length e.next.items
  pub flows : (ps : List Packet) → AreFlows ps e.flows
  pub nothing : (ps : List Packet) (q : Option (List ℕ)) → place_of ps e.flows q ≡ None
  pub last : e.last ≡ None
  pub places : HasPlaces e n

-- one more packet, that of index i: the runs, within limits each, are those of the packets so far, whatever these are,
-- with that one
pub record Takes (limits : Limits) (ps : List Packet) (i : ℕ) (a b : Engine) : Type 0 where
  pub runs : AreRuns ps (i + 1) b
  pub takes : TakesPacket limits (runs_of ps a) (packet_at ps i) (runs_of ps b)
  pub early : KeepsEarly (runs_of ps a) (packet_at ps i) (runs_of ps b)
  pub linked : length b.next.items ≡ length a.next.items
  pub places : (n : ℕ) → HasPlaces a (n + 1) → HasPlaces b n

-- the packets' numbers rise
abbrev pub DoRise : List Packet → Type 0
DoRise ps = AllNeighbours (λ (p q : Packet). p.number < q.number) ps

-- the engine has received the first i packets: its runs are theirs
pub record HasReceived (limits : Limits) (ps : List Packet) (i : ℕ) (e : Engine) : Type 0 where
  pub are : AreRuns ps i e
  pub runs : AreItems (IsMergeableWithin limits) is_of number_of (take i ps) (runs_of ps e)
  pub early : (n : ℕ) → AllByRecursion (λ (p : Packet). p.number < n) (take i ps)
      → AllByRecursion (λ run. first_number number_of run < n) (runs_of ps e)
