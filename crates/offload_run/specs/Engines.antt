-- What an engine tells when a command that read a capture is done: all of its blocks are home, and it took at least as
-- many as the bytes that were given need, or its count stands at its last value.
use Rattle.std.specs.Prelude.{◌≡◌, ℕ, ◌-◌, ◌^◌, ◌≤◌, List, min, Option, None, Some, [], ⊤, length}
use Rattle.off_io.specs.Told.{Told}
use Rattle.pcap_io.specs.declared.heads.Link.TheVariants.{Ethernet, Offload}
use Rattle.pcap_io.specs.Capture.{reads}
use Rattle.offload_model.specs.Need.{round_need}
use Rattle.cap_make.specs.Capture.{made}
use Rattle.offload_words.specs.declared.check.CheckOptions.{CheckOptions}
use Rattle.offload_words.specs.declared.words.Command.{Command}
use Rattle.offload_words.specs.declared.words.Command.TheVariants.{Merge, Segment, Check, Make}
use Rattle.offload_run.specs.declared.engine.Engine.{Engine}
use Rattle.offload_run.specs.declared.engine.Engine.TheVariants as engines
use Rattle.rounds.specs.RoundsState.{RoundsState}
use Rattle.segmenting.specs.SegmentState.{SegmentState}
use Rattle.segmenting.specs.Segmenting.{records_need}

-- the engine of what a command left
abbrev pub merging : Option RoundsState → Option Engine
merging None = None
merging (Some rounds) = Some (engines.Merge rounds)

abbrev pub segmenting : Option SegmentState → Option Engine
segmenting None = None
segmenting (Some run) = Some (engines.Segment run)

-- what is left of the source before and after
abbrev pub HasMerged : ℕ → (List ℕ → ℕ) → Option Engine → Option (List ℕ) → Option (List ℕ) → Type 0
HasMerged blocks need (Some (engines.Merge rounds)) old new =
    (rounds.blocks ≡ blocks) × (length rounds.stock ≡ blocks) × Told old new
    (λ given left. min (need given) (2 ^ 64 - 1) ≤ rounds.taken)
HasMerged blocks need _ old new = ⊥

abbrev pub HasSegmented : ℕ → (List ℕ → ℕ) → Option Engine → Option (List ℕ) → Option (List ℕ) → Type 0
HasSegmented blocks need (Some (engines.Segment run)) old new =
    (run.blocks ≡ blocks) × (run.home ≡ blocks) × Told old new (λ given left. min (need given) (2 ^ 64 - 1) ≤ run.taken)
HasSegmented blocks need _ old new = ⊥

-- of a generated capture, which no source gives, all was read
abbrev pub HasChecked : Option ℕ → CheckOptions → Option Engine → Option (List ℕ) → Option (List ℕ) → Type 0
HasChecked None o engine old new = HasMerged o.merge.blocks
    (λ given. round_need (reads Ethernet given).packets) engine old new
HasChecked (Some seed) o engine old new =
    HasMerged o.merge.blocks (λ given. round_need (reads Ethernet given).packets) engine (Some (made seed o.count))
    (Some [])

-- the engine is that of the command
abbrev pub HasRun : Command → Option Engine → Option (List ℕ) → Option (List ℕ) → Type 0
HasRun (Merge o) engine old new = HasMerged o.blocks (λ given. round_need (reads Ethernet given).packets) engine old new
HasRun (Segment o) engine old new = HasSegmented o.blocks
    (λ given. records_need (reads Offload given).packets) engine old new
HasRun (Check o) engine old new = HasChecked o.seed o engine old new
HasRun (Make o) engine old new = ⊤

-- ---- whatever the status

-- where an engine was left it has so many blocks, and all of them are home
abbrev pub IsMergeHome : ℕ → Option Engine → Type 0
IsMergeHome blocks None = ⊤
IsMergeHome blocks (Some (engines.Merge rounds)) = (rounds.blocks ≡ blocks) × (length rounds.stock ≡ blocks)
IsMergeHome blocks (Some (engines.Segment run)) = ⊥

abbrev pub IsSegmentHome : ℕ → Option Engine → Type 0
IsSegmentHome blocks None = ⊤
IsSegmentHome blocks (Some (engines.Merge rounds)) = ⊥
IsSegmentHome blocks (Some (engines.Segment run)) = (run.blocks ≡ blocks) × (run.home ≡ blocks)

-- the engine is that of the command, over the blocks that it asks for; `make` leaves none
abbrev pub LeavesHome : Command → Option Engine → Type 0
LeavesHome (Merge o) engine = IsMergeHome o.blocks engine
LeavesHome (Segment o) engine = IsSegmentHome o.blocks engine
LeavesHome (Check o) engine = IsMergeHome o.merge.blocks engine
LeavesHome (Make o) engine = engine ≡ None
